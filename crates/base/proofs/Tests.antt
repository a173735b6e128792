-- Laws of tests, as Bools: both cases, and what a conjunction or a disjunction of two says of each. Assumes nothing.
use mathlib.Core.Path.{◌≡◌, refl, sym, ◌∙◌, subst}
use mathlib.Core.Logic.{◌⊎◌, inl, inr}
use mathlib.Core.Bool.{Bool, true, false, ◌&&◌, ◌||◌}
use Prim.Native.Nat.{ℕ, ◌+◌, ◌<◌}
use native.Mathlib.Nat.{eq-or-lt_of_le, le_of_suc-le-suc}
use native.Mathlib.Numerals.{add-one}
use lib.Dec.{T}

-- a test's two cases, each with its equation
pub by_test {ℓ} : {C : Type ℓ} (t : Bool) → (t ≡ true → C) → (t ≡ false → C) → C
by_test true y n = y refl
by_test false y n = n refl

pub true_not_false {ℓ} : {C : Type ℓ} {t : Bool} → t ≡ true → t ≡ false → C
true_not_false {t} y n = absurd (subst T (sym y ∙ n) tt)

pub not_true_false : (t : Bool) → (t ≡ true → ⊥) → t ≡ false
not_true_false true n = absurd (n refl)
not_true_false false n = refl

pub and_left : (a b : Bool) → (a && b) ≡ true → a ≡ true
and_left true b e = refl
and_left false b e = e

pub and_right : (a b : Bool) → (a && b) ≡ true → b ≡ true
and_right true b e = e
and_right false b e = true_not_false e refl

-- one that fails where its first part holds
pub and_not_right : (a b : Bool) → (a && b) ≡ false → a ≡ true → b ≡ false
and_not_right true b e y = e
and_not_right false b e y = true_not_false y refl

pub and_false : (a : Bool) → (a && false) ≡ false
and_false true = refl
and_false false = refl

pub or_cases : (a b : Bool) → (a || b) ≡ true → (a ≡ true) ⊎ (b ≡ true)
or_cases true b e = inl refl
or_cases false b e = inr e

pub or_left : (a b : Bool) → (a || b) ≡ false → a ≡ false
or_left true b e = e
or_left false b e = refl

pub or_right : (a b : Bool) → (a || b) ≡ false → b ≡ false
or_right true b e = true_not_false refl e
or_right false b e = e

pub or_true : (a : Bool) → (a || true) ≡ true
or_true true = refl
or_true false = refl

pub or_false : (a : Bool) → (a || false) ≡ a
or_false true = refl
or_false false = refl

pub or_assoc : (a b c : Bool) → ((a || b) || c) ≡ (a || (b || c))
or_assoc true b c = refl
or_assoc false b c = refl

-- what holds below i and at i holds below i + 1: one turn of a loop that tests
pub one_more_lem : (P : ℕ → Type 0) (i : ℕ) → P i → ((j : ℕ) → j < i → P j) → (j : ℕ) → j < i + 1 → P j
one_more_lem P i e h j l = elim (eq-or-lt_of_le (le_of_suc-le-suc (rw add-one at l))) [ inl q ↦ rw q e | inr k ↦ h j k ]

-- tests that pass together are one
pub same_tests : (a b : Bool) → (a ≡ true → b ≡ true) → (b ≡ true → a ≡ true) → a ≡ b
same_tests true b f g = sym (f refl)
same_tests false true f g = true_not_false (g refl) refl
same_tests false false f g = refl
