-- A ledger keeps its blocks as long as none is taken back, and a retired block stays retired whatever calls follow: where a list of calls leaves
-- none, there was none before any of them. Assumes nothing.
use mathlib.Core.Path.{◌≡◌, refl, ap, ◌∙◌}
use mathlib.Core.Bool.{Bool, true, false}
use mathlib.Core.List.{List, [], ◌∷◌, Memᴰ}
use Prim.Native.Nat.{ℕ}
use native.Mathlib.Omega.{arith}
use lib.Dec.{eqb}
use lib.ListN.{length}
use Rattle.base.specs.Bytes.{Bytes}
use Rattle.base.proofs.Tests.{by_test, true_not_false}
use Rattle.setup.specs.Setup.{Setup}
use Rattle.run.specs.Ledger.{Call, admit, interpret, retire, take_back, Ledger, taken, retired_mark, ledger_answer, ledger_step, ledger_after}

abbrev pub is_taking_back : Call → Bool
is_taking_back (admit b verdict) = false
is_taking_back (interpret i) = false
is_taking_back retire = false
is_taking_back take_back = true

taken_keeps : (l : Ledger) (c : Call) → is_taking_back c ≡ false → (b : Bytes) → Memᴰ b l.blocks → Memᴰ b (taken l c).blocks
unfolding taken
taken_keeps l (admit a verdict) e b m = Memᴰ.tail m
taken_keeps l (interpret i) e b m = m
taken_keeps l retire e b m = m
taken_keeps l take_back e b m = true_not_false refl e

pub some_retired : (b : Bytes) (bs : List Bytes) → b ∷ bs ≡ [] → ⊥
some_retired b bs e = let n : length (b ∷ bs) ≡ 0 = ap length e in omega arith

-- where the mark is not set, nothing was retired
pub none_retired : (bs : List Bytes) → retired_mark bs ≡ 0 → bs ≡ []
none_retired [] e = refl
none_retired (b ∷ bs) e = absurd (omega arith)

taken_unretired : (l : Ledger) (c : Call) → (taken l c).retired ≡ [] → l.retired ≡ []
unfolding taken
taken_unretired l (admit b verdict) e = e
taken_unretired l (interpret i) e = e
taken_unretired l retire e = absurd (some_retired (l.block 0) l.retired e)
taken_unretired l take_back e = e

abbrev pub is_retiring : Call → Bool
is_retiring (admit b verdict) = false
is_retiring (interpret i) = false
is_retiring retire = true
is_retiring take_back = false

taken_plain : (l : Ledger) (c : Call) → is_retiring c ≡ false → (taken l c).retired ≡ l.retired
unfolding taken
taken_plain l (admit b verdict) e = refl
taken_plain l (interpret i) e = refl
taken_plain l retire e = true_not_false refl e
taken_plain l take_back e = refl

-- none of the calls is a taking back
abbrev pub NoneBack : List Call → Type 0
NoneBack [] = Unit {0}
NoneBack (c ∷ cs) = (is_taking_back c ≡ false) × NoneBack cs

module _ (digest : Bytes → Bytes) (s : Setup) (size : ℕ) where
  pub step_keeps : (l : Ledger) (c : Call) → is_taking_back c ≡ false → (b : Bytes) → Memᴰ b l.blocks → Memᴰ b (ledger_step digest s size l c).blocks
  unfolding ledger_step
  step_keeps l c e b m = by_test (eqb (ledger_answer digest s size l c).refusal 0) (λ y. rw y (taken_keeps l c e b m)) (λ n. rw n m)

  pub after_keeps : (l : Ledger) (cs : List Call) → NoneBack cs → (b : Bytes) → Memᴰ b l.blocks → Memᴰ b (ledger_after digest s size l cs).blocks
  unfolding ledger_after
  after_keeps l [] none b m = m
  after_keeps l (c ∷ cs) none b m = after_keeps (ledger_step digest s size l c) cs none.1 b (step_keeps l c none.0 b m)

  pub step_unretired : (l : Ledger) (c : Call) → (ledger_step digest s size l c).retired ≡ [] → l.retired ≡ []
  unfolding ledger_step
  step_unretired l c e = by_test (eqb (ledger_answer digest s size l c).refusal 0) (λ y. taken_unretired l c (rw y at e)) (λ n. rw n at e)

  -- where none of them is a retiring, nothing is retired
  step_plain : (l : Ledger) (c : Call) → is_retiring c ≡ false → (ledger_step digest s size l c).retired ≡ l.retired
  unfolding ledger_step
  step_plain l c e = by_test (eqb (ledger_answer digest s size l c).refusal 0) (λ y. rw y (taken_plain l c e)) (λ n. rw n)

  pub after_plain : (l : Ledger) (cs : List Call) → ((c : Call) → Memᴰ c cs → is_retiring c ≡ false) → (ledger_after digest s size l cs).retired ≡ l.retired
  unfolding ledger_after
  after_plain l [] plain = refl
  after_plain l (c ∷ cs) plain =
      after_plain (ledger_step digest s size l c) cs (λ d m. plain d (Memᴰ.tail m)) ∙ step_plain l c (plain c (Memᴰ.head refl))

  pub after_unretired : (l : Ledger) (cs : List Call) → (ledger_after digest s size l cs).retired ≡ [] → l.retired ≡ []
  unfolding ledger_after
  after_unretired l [] e = e
  after_unretired l (c ∷ cs) e = step_unretired l c (after_unretired (ledger_step digest s size l c) cs e)
