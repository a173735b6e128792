-- A list of checks, one check at a time: where the first holds the others decide, and where it does not it decides itself. Then what single tests in
-- a check say. Assumes nothing.
use mathlib.Core.Path.{◌≡◌, refl, sym, ap, ◌∙◌}
use mathlib.Core.Bool.{Bool, true, false, cond, not, ◌&&◌, ◌||◌}
use mathlib.Core.Logic.{◌↔◌, ◌≢◌, ◌⊎◌, inl, inr}
use mathlib.Core.List.{List, [], ◌∷◌}
use Prim.Native.Nat.{ℕ}
use lib.Dec.{eqb}
use borrow.Author.Tests.{eqb-true, eqb-false, not-true, not-false}
use Rattle.base.specs.List.{some_in}
use Rattle.base.proofs.Tests.{by_test, true_not_false, not_true_false, and_left, and_right}
use Rattle.answer.specs.declared.Answer.{Answer}
use Rattle.answer.specs.Checks.{Check, refused, answer_to}
use Rattle.answer.specs.Promises.{elsewhere}

pub number_of : {a b : Answer} → a ≡ b → a.refusal ≡ b.refusal
number_of e = ap (λ (a : Answer). a.refusal) e

pub value_of : {a b : Answer} → a ≡ b → a.value ≡ b.value
value_of e = ap (λ (a : Answer). a.value) e

module _ (c : Check) (cs : List Check) (value : ℕ) where
  pub first_holds : c.holds ≡ true → answer_to (c ∷ cs) value ≡ answer_to cs value
  unfolding answer_to
  first_holds y = rw y

  pub first_fails : c.holds ≡ false → answer_to (c ∷ cs) value ≡ refused c.number c.value
  unfolding answer_to
  first_fails n = rw n

-- lists that answer the same do so behind one more check
pub same_rest : (c : Check) (cs ds : List Check) (value : ℕ) → answer_to cs value ≡ answer_to ds value → answer_to (c ∷ cs) value ≡ answer_to (c ∷ ds) value
unfolding answer_to
same_rest c cs ds value e = ap (λ (a : Answer). cond c.holds a (refused c.number c.value)) e

-- a number that is neither 0 nor the number of a check is not answered
pub never_answered : (n : ℕ) (cs : List Check) (value : ℕ) → elsewhere n cs ≡ true → (answer_to cs value).refusal ≢ n
unfolding elsewhere answer_to
never_answered n [] value e q = eqb-false 0 n (not-true _ e) q
never_answered n (c ∷ cs) value e q =
    by_test c.holds
    (λ y. never_answered n cs value (and_right (not (eqb c.number n)) (elsewhere n cs) e) (sym (number_of (first_holds c cs value y)) ∙ q))
    (λ f. eqb-false c.number n (not-true _ (and_left (not (eqb c.number n)) (elsewhere n cs) e)) (sym (number_of (first_fails c cs value f)) ∙ q))

-- ---- the value beside a number

-- 0 stands beside every number but these
unfoldable pub valued_only : List ℕ → List Check → ℕ → Bool
valued_only numbers [] value = some_in (eqb 0) numbers || eqb value 0
valued_only numbers (c ∷ cs) value = (some_in (eqb c.number) numbers || eqb c.value 0) && valued_only numbers cs value

-- one of two tests passes, and the first does not
second_passes : (x y : Bool) → (x || y) ≡ true → x ≡ false → y ≡ true
second_passes true y e f = absurd (true_not_false refl f)
second_passes false y e f = e

pub no_value : (numbers : List ℕ) (cs : List Check) (value : ℕ) → valued_only numbers cs value ≡ true
    → some_in (eqb (answer_to cs value).refusal) numbers ≡ false → (answer_to cs value).value ≡ 0
unfolding valued_only answer_to
no_value numbers [] value v o = eqb-true value 0 (second_passes (some_in (eqb 0) numbers) (eqb value 0) v o)
no_value numbers (c ∷ cs) value v o =
    let here : (some_in (eqb c.number) numbers || eqb c.value 0) ≡ true = and_left _ (valued_only numbers cs value) v in
    let outside : (n : ℕ) → (answer_to (c ∷ cs) value).refusal ≡ n → some_in (eqb n) numbers ≡ false = λ n e. rw (sym e) o in
    by_test c.holds
    (λ y.
    let e = first_holds c cs value y in
    value_of e ∙ no_value numbers cs value (and_right (some_in (eqb c.number) numbers || eqb c.value 0) _ v) (outside _ (number_of e)))
    (λ f.
    let e = first_fails c cs value f in
    value_of e ∙ eqb-true _ 0 (second_passes (some_in (eqb c.number) numbers) (eqb c.value 0) here (outside _ (number_of e))))

-- ---- what single tests say

-- a check that something is not there: it holds where it is absent, and fails where it is present
module _ (test : Bool) (P : Type 0) (means : (test ≡ true) ↔ P) where
  pub absent : (not test ≡ true) ↔ (P → ⊥)
  absent = (λ e p. true_not_false (means.1 p) (not-true test e), λ n. ap not (not_true_false test (λ y. n (means.0 y))))

  pub present : (not test ≡ false) ↔ P
  present = (λ e. means.0 (not-false test e), λ p. ap not (means.1 p))

  pub missed : (test ≡ false) ↔ (P → ⊥)
  missed = (λ e p. true_not_false (means.1 p) e, λ n. not_true_false test (λ y. n (means.0 y)))

-- a check of two tests fails where one of them does
pub either_fails : (x y : Bool) {A B : Type 0} → (x ≡ false) ↔ A → (y ≡ false) ↔ B → ((x && y) ≡ false) ↔ (A ⊎ B)
either_fails true y a b = (λ e. inr (b.0 e), λ w. elim w [ inl p ↦ true_not_false refl (a.1 p) | inr q ↦ b.1 q ])
either_fails false y a b = (λ e. inl (a.0 refl), λ w. refl)
