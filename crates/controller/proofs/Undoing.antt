-- An arrival that was admitted can be taken back: its own block, and those that were tried after it, are blocks that were brought one after the other.
-- Assumes nothing.
use mathlib.Core.Path.{◌≡◌, refl, sym, ap₂, subst}
use mathlib.Core.Bool.{cond}
use mathlib.Core.List.{List, [], ◌∷◌, map}
use Prim.Native.Nat.{ℕ, suc, ◌+◌}
use native.Mathlib.Omega.{arith}
use lib.Dec.{eqb}
use lib.ListN.{length}
use borrow.Author.Tests.{eq-eqb}
use Rattle.base.specs.Bytes.{Bytes}
use Rattle.base.specs.List.{count_in}
use Rattle.answer.specs.declared.Answer.{Answer}
use Rattle.block.specs.Limits.{reference_size}
use Rattle.admission.specs.Admission.{admission, admitted}
use Rattle.campaigns.specs.Passes.{Try, let_in}
use Rattle.campaigns.specs.Arriving.{arrival}
use Rattle.campaigns.specs.Promises.{TriedFrom}
use Rattle.campaigns.proofs.Ways.{by_way}
use Rattle.campaigns.proofs.Promises.{call_keeps}
use Rattle.take_back.specs.Promises.{UndoneBy, Brought, loaded, admitted_of}
use Rattle.take_back.proofs.Promises.{promises}
use Rattle.run.specs.Run.{site_step}
use Rattle.controller.specs.Run.{Controller, arrival_at, step}
use Rattle.controller.specs.Promises.{ArrivalUndone}

-- tries as blocks that are brought
abbrev brought : List Try → List Brought
brought ys = map (λ y. record { block = y.block; verdict = 1 }) ys

module _ (digest : Bytes → Bytes) where
  tries_loaded : (ys : List Try) (t t' : Bytes) → TriedFrom digest t ys t' → loaded digest t (brought ys) ≡ t'
  unfolding TriedFrom loaded
  tries_loaded [] t t' e = e
  tries_loaded (y ∷ ys) t t' e = tries_loaded ys (admitted digest t y.block 1) t' e.1

  tries_admitted : (ys : List Try) (t t' : Bytes) → TriedFrom digest t ys t' → admitted_of digest t (brought ys) ≡ count_in let_in ys
  unfolding TriedFrom admitted_of count_in
  tries_admitted [] t t' e = refl
  tries_admitted (y ∷ ys) t t' e =
      ap₂ (λ (a : Answer) (n : ℕ). cond (eqb a.refusal 0) 1 0 + n) (sym e.0) (tries_admitted ys (admitted digest t y.block 1) t' e.1)

  -- an arrival that is answered 0 was admitted
  was_admitted : (t s : Bytes) (c : ℕ) (b : Bytes) (verdict room : ℕ) → (arrival digest t s c b verdict room).answer.refusal ≡ 0
      → (admission digest t b verdict).refusal ≡ 0
  was_admitted t s c b verdict room =
      by_way digest t s c b verdict room (λ r. r.answer.refusal ≡ 0 → (admission digest t b verdict).refusal ≡ 0)
      (λ h e. absurd (omega arith)) (λ l h e. absurd (omega arith)) (λ l h n e. absurd (omega arith)) (λ g y e. absurd (omega arith)) (λ g n m e. absurd (omega arith))
      (λ g n y e. absurd (omega (arith, g.missing))) (λ k z e. z) (λ k n z e. e)

  table_undone : ((b : Bytes) → length (digest b) ≡ reference_size) → (x : Controller) (c : ℕ) (b : Bytes) (verdict room : ℕ)
      → (arrival_at digest x c b verdict room).answer.refusal ≡ 0
      → UndoneBy (suc (count_in let_in (arrival_at digest x c b verdict room).tries)) (arrival_at digest x c b verdict room).table (x.site c).table
  unfolding loaded admitted_of
  table_undone sized x c b verdict room e =
      let t : Bytes = (x.site c).table in
      let t₁ : Bytes = admitted digest t b verdict in
      let t' : Bytes = (arrival_at digest x c b verdict room).table in
      let ys : List Try = (arrival_at digest x c b verdict room).tries in
      let tried = (call_keeps digest sized t x.shelf c b verdict room).tried_from e in
      let all : List Brought = record { block = b; verdict = verdict } ∷ brought ys in
      let own : (admission digest t b verdict).refusal ≡ 0 = was_admitted t x.shelf c b verdict room e in
      let number : admitted_of digest t all ≡ suc (count_in let_in ys) = rw own (omega (arith, tries_admitted ys t₁ t' tried)) in
      subst (λ (k : ℕ). UndoneBy k t' t) number
      (subst (λ (z : Bytes). UndoneBy (admitted_of digest t all) z t) (tries_loaded ys t₁ t' tried) (promises.file_undone digest sized t all))

  pub arrival_undone : ((b : Bytes) → length (digest b) ≡ reference_size) → (x : Controller) (c : ℕ) (b : Bytes) (verdict room : ℕ)
      → ArrivalUndone digest x c b verdict room
  unfolding step site_step
  arrival_undone sized x c b verdict room =
      record { table = table_undone sized x c b verdict room; shelf = λ y. refl; records = λ y. rw (eq-eqb c c refl) }
