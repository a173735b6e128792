-- A site that has retired nothing and builds by the rule is full, at its own table and at every other site that holds no further block of it.
-- Assumes nothing.
use mathlib.Core.Path.{◌≡◌}
use mathlib.Core.Bool.{true}
use mathlib.Core.List.Memᴰ
use mathlib.Core.List.{List, [], ◌∷◌, ◌++◌, Memᴰ}
use Prim.Native.Nat.{ℕ}
use lib.Dec.{eqb}
use lib.ListN.{length}
use borrow.Author.Tests.{eqb-true, eqb-false}
use Rattle.base.specs.Bytes.{Bytes}
use Rattle.base.proofs.Tests.{by_test}
use Rattle.sha256.specs.Sha256.{sha256}
use Rattle.sha256.proofs.Promises.{sha256_length}
use Rattle.setup.specs.Setup.{Setup, lawful}
use Rattle.block.specs.Limits.{reference_size}
use Rattle.history.specs.Forks.{NoCollision}
use Rattle.history.proofs.Ancestry.{OneHistory}
use Rattle.history.proofs.Collections.{across}
use Rattle.run.specs.Ledger.{Call, admit, interpret, retire, take_back, Ledger, empty, taken, ledger_step, ledger_after}
use Rattle.run.specs.Run.{Site, started, site_answer, site_step}
use Rattle.run.specs.Promises.{ledger_of}
use Rattle.run.proofs.Runs.{RunInvariant, passed, refused, step_invariant}
use Rattle.run.proofs.Growth.{after_unretired}
use Rattle.run.proofs.LedgerPlaces.{one_history_each, unretired_clear, safe_clear}
use Rattle.run.proofs.Promises.{start, run}
use Rattle.arrival.specs.Full.{BlockBy, Full}
use Rattle.arrival.specs.Building.{OwnIsBuilt, BuildsByRule, BuildersFull}
use Rattle.arrival.proofs.Builders.{Built, built_behind, built_full, full_elsewhere}
use Rattle.arrival.proofs.Picking.{picks}

-- ---- each call keeps the site's blocks built by the rule, and so does every list of calls

module _ (digest : Bytes → Bytes) (sized : (b : Bytes) → length (digest b) ≡ reference_size) (s : Setup) (p size : ℕ) where
  call_built : (l : Ledger) (x : Site) → RunInvariant digest sized s size l x → l.retired ≡ [] → Built digest p l.blocks → (c : Call) → OwnIsBuilt digest p x c
      → (site_answer digest x c).refusal ≡ 0 → Built digest p (taken l c).blocks
  unfolding taken OwnIsBuilt
  call_built l x t none k (admit b verdict) own e = (λ by. picks digest sized s size l x t none p b (own by e), k)
  call_built l x t none k (interpret i) own e = k
  call_built l x t none k retire own e = k
  call_built l x t none k take_back own e = built_behind digest p l.blocks k

  step_built : (l : Ledger) (x : Site) → RunInvariant digest sized s size l x → l.retired ≡ [] → Built digest p l.blocks → (c : Call) → OwnIsBuilt digest p x c
      → Built digest p (ledger_step digest s size l c).blocks
  step_built l x t none k c own = by_test (eqb (site_answer digest x c).refusal 0)
      (λ y. let e : (site_answer digest x c).refusal ≡ 0 = eqb-true _ 0 y in rw (passed digest sized s size l x t c e) (call_built l x t none k c own e))
      (λ n. rw (refused digest sized s size l x t c (eqb-false _ 0 n)) k)

  calls_built : (l : Ledger) (x : Site) → RunInvariant digest sized s size l x → Built digest p l.blocks → (cs : List Call) → BuildsByRule digest p x cs
      → (ledger_after digest s size l cs).retired ≡ [] → Built digest p (ledger_after digest s size l cs).blocks
  unfolding ledger_after BuildsByRule
  calls_built l x t k [] own none = k
  calls_built l x t k (c ∷ cs) own none =
      let before : l.retired ≡ [] = after_unretired digest s size l (c ∷ cs) none in
      calls_built (ledger_step digest s size l c) (site_step digest x c) (step_invariant digest sized s size l x t c) (step_built l x t before k c own.0) cs own.1 none

-- ---- from the empty table on

module _ (digest : Bytes → Bytes) (sized : (b : Bytes) → length (digest b) ≡ reference_size) (s : Setup) (law : lawful s ≡ true) where
  run_built : (buffer : List ℕ) (calls : List Call) (p : ℕ) → BuildsByRule digest p (started s buffer) calls → (ledger_of digest s buffer calls).retired ≡ []
      → Built digest p (ledger_of digest s buffer calls).blocks
  run_built buffer calls p own none = calls_built digest sized s p (length buffer) empty (started s buffer) (start digest sized s law buffer) tt calls own none

  module _ (buffer₁ buffer₂ : List ℕ) (calls₁ calls₂ : List Call) (p : ℕ) (none : (ledger_of digest s buffer₁ calls₁).retired ≡ [])
      (own : BuildsByRule digest p (started s buffer₁) calls₁) where
    abbrev l₁ : Ledger
    l₁ = ledger_of digest s buffer₁ calls₁

    abbrev l₂ : Ledger
    l₂ = ledger_of digest s buffer₂ calls₂

    one₁ : OneHistory digest l₁.blocks
    one₁ =
        let t = run digest sized s law buffer₁ calls₁ in
        one_history_each digest sized s (length buffer₁) l₁ _ t (unretired_clear digest sized s (length buffer₁) l₁ _ t none)

    full_here : Full digest l₁.blocks p
    full_here = built_full digest p l₁.blocks one₁ (run_built buffer₁ calls₁ p own none)

    full_there : NoCollision digest (l₁.blocks ++ l₂.blocks) → ((b : Bytes) → BlockBy l₂.blocks p b → Memᴰ b l₁.blocks) → Full digest l₂.blocks p
    full_there safe known =
        let t = run digest sized s law buffer₂ calls₂ in
        let clear = safe_clear digest sized s (length buffer₂) l₂ _ t (λ a b m n. safe a b (Memᴰ.append_right l₁.blocks m) (Memᴰ.append_right l₁.blocks n)) in
        let one₂ = one_history_each digest sized s (length buffer₂) l₂ _ t clear in
        full_elsewhere digest p l₁.blocks one₁ (run_built buffer₁ calls₁ p own none) l₂.blocks one₂
        (across digest l₁.blocks l₂.blocks one₁ one₂ safe) known

  pub builders_full : (buffer₁ buffer₂ : List ℕ) (calls₁ calls₂ : List Call) (p : ℕ) → BuildersFull digest s buffer₁ buffer₂ calls₁ calls₂ p
  builders_full buffer₁ buffer₂ calls₁ calls₂ p =
      record { here = full_here buffer₁ buffer₂ calls₁ calls₂ p; elsewhere = full_there buffer₁ buffer₂ calls₁ calls₂ p }

-- the digest that runs
pub builders : (s : Setup) → lawful s ≡ true → (buffer₁ buffer₂ : List ℕ) (calls₁ calls₂ : List Call) (p : ℕ) → BuildersFull sha256 s buffer₁ buffer₂ calls₁ calls₂ p
builders s law = builders_full sha256 sha256_length s law
