-- A mask's highest place j, and the mask without it: what is in the two, and one turn of a loop over the places of a mask, from the highest
-- down. Assumes nothing.
use mathlib.Core.Path.{◌≡◌, refl, sym, ap, ◌∙◌, subst}
use mathlib.Core.Bool.{Bool, true, false, cond, ◌&&◌, ◌||◌}
use mathlib.Core.Logic.{inl, inr}
use Prim.Native.Nat.{ℕ, zero, suc, ◌+◌, ◌-◌, ◌*◌, ◌%◌, ◌^◌, ◌≤◌, ◌<◌}
use native.Mathlib.Nat.{pow-suc, div-eq_of_lt, zero-div}
use native.Mathlib.Decide.{dec_lt}
use native.Mathlib.Omega.{arith}
use lib.Dec.{eqb, ltb, lit<}
use lib.Pow.{pow_mono, pow_pos, shl_exact, high}
use borrow.Author.Tests.{lt-ltb, le-ltb}
use Rattle.base.specs.Search.{any_below}
use Rattle.base.specs.Count.{count_below}
use Rattle.base.specs.Mask.{in_mask}
use Rattle.base.proofs.Tests.{true_not_false, and_left, and_right, or_cases, or_true, same_tests}
use Rattle.base.proofs.Search.{any_true, any_true_at, any_false}
use Rattle.base.proofs.Mask.{bit_above}

-- the mask of one place
pub one_place : (j : ℕ) → j < 64 → 1 * 2 ^ j % 2 ^ 64 ≡ 2 ^ j
one_place j h = shl_exact 1 j 64 (lit< tt) (omega arith) ∙ omega arith

-- p is not in a mask that is below 2 ^ p
pub not_in : (x p : ℕ) → x < 2 ^ p → in_mask x p ≡ false
not_in x p l = ap (λ (y : ℕ). eqb (y % 2) 1) (div-eq_of_lt l)

module _ (m j : ℕ) (from : 2 ^ j ≤ m) (to : m < 2 ^ suc j) where
  rest_below : m - 2 ^ j < 2 ^ j
  rest_below = omega (arith, pow-suc 2 j)

  apart : m ≡ 1 * 2 ^ j + (m - 2 ^ j)
  apart = omega arith

  pub highest_in : in_mask m j ≡ true
  highest_in = ap (λ (x : ℕ). in_mask x j) apart ∙ ap (λ (x : ℕ). eqb (x % 2) 1) (high 1 j rest_below)

  pub lower_in : (p : ℕ) → p < j → in_mask m p ≡ in_mask (m - 2 ^ j) p
  lower_in p l =
      let e : suc (j - suc p) + p ≡ j = omega arith in
      ap (λ (x : ℕ). in_mask x p) apart ∙ ap (λ (x : ℕ). in_mask (1 * 2 ^ x + (m - 2 ^ j)) p) (sym e)
      ∙ ap (λ (x : ℕ). eqb x 1) (bit_above 1 (m - 2 ^ j) (j - suc p) p)

  abbrev Turn : (ℕ → Bool) → ℕ → Type 0
  Turn g k = cond (ltb j k && g j) 1 0 + count_below (λ p. in_mask (m - 2 ^ j) p && g p) k ≡ count_below (λ p. in_mask m p && g p) k

  -- one place more: above j, j itself, and below j
  above : (g : ℕ → Bool) (k : ℕ) → j < k → Turn g k → Turn g (suc k)
  unfolding count_below
  above g k l ih =
      let small : m < 2 ^ k = omega (arith, pow_mono {i = suc j} {j = k} l) in
      rw (lt-ltb j (suc k) (omega arith), not_in m k small, not_in (m - 2 ^ j) k (omega arith)) (omega (arith, rw (lt-ltb j k l) at ih))

  here : (g : ℕ → Bool) → Turn g j → Turn g (suc j)
  unfolding count_below
  here g ih = rw (lt-ltb j (suc j) (omega arith), not_in (m - 2 ^ j) j rest_below, highest_in) (omega (arith, rw (le-ltb j j (omega arith)) at ih))

  below : (g : ℕ → Bool) (k : ℕ) → k < j → Turn g k → Turn g (suc k)
  unfolding count_below
  below g k l ih = rw (le-ltb j (suc k) l, lower_in k l) (omega (arith, rw (le-ltb j k (omega arith)) at ih))

  -- one turn of a loop over the places of a mask, from the highest down, that counts those below k that pass a test
  pub count_highest : (g : ℕ → Bool) (k : ℕ)
      → cond (ltb j k && g j) 1 0 + count_below (λ p. in_mask (m - 2 ^ j) p && g p) k ≡ count_below (λ p. in_mask m p && g p) k
  unfolding count_below
  count_highest g zero = rw (le-ltb j 0 (omega arith))
  count_highest g (suc k) = elim (dec_lt j k) [
    | yes l ↦ above g k l (count_highest g k)
    | no n ↦ elim (dec_lt k j) [
      | yes l ↦ below g k l (count_highest g k)
      | no o ↦ let e : j ≡ k = omega arith in subst (λ (x : ℕ). Turn g x → Turn g (suc x)) e (here g) (count_highest g k)
    ]
  ]

  -- the same of a loop that looks whether some place below k passes a test
  pub any_highest : (g : ℕ → Bool) (k : ℕ) → j < k → any_below (λ p. in_mask m p && g p) k ≡ (g j || any_below (λ p. in_mask (m - 2 ^ j) p && g p) k)
  any_highest g k h = same_tests _ _
      (λ y. let w = any_true_at (λ p. in_mask m p && g p) k y in
      let p : ℕ = w.0 in
      let i : in_mask m p ≡ true = and_left (in_mask m p) (g p) w.2 in
      let o : g p ≡ true = and_right (in_mask m p) (g p) w.2 in
      elim (dec_lt p j) [
        | yes l ↦ ap (λ (t : Bool). g j || t) (any_true (λ p. in_mask (m - 2 ^ j) p && g p) k p w.1 (rw (sym (lower_in p l) ∙ i, o))) ∙ or_true (g j)
        | no n ↦ elim (dec_lt j p) [
          | yes l ↦ absurd (true_not_false i (not_in m p (omega (arith, pow_mono {i = suc j} {j = p} l))))
          | no u ↦ let e : p ≡ j = omega arith in let z : g j ≡ true = ap g (sym e) ∙ o in rw z
        ]
      ])
      (λ y. elim (or_cases (g j) (any_below (λ p. in_mask (m - 2 ^ j) p && g p) k) y) [
        | inl z ↦ any_true (λ p. in_mask m p && g p) k j h (rw (highest_in, z))
        | inr z ↦ let w = any_true_at (λ p. in_mask (m - 2 ^ j) p && g p) k z in
            let p : ℕ = w.0 in
            let i : in_mask (m - 2 ^ j) p ≡ true = and_left (in_mask (m - 2 ^ j) p) (g p) w.2 in
            let o : g p ≡ true = and_right (in_mask (m - 2 ^ j) p) (g p) w.2 in
            elim (dec_lt p j) [
              | yes l ↦ any_true (λ p. in_mask m p && g p) k p w.1 (rw (lower_in p l ∙ i, o))
              | no n ↦ absurd (true_not_false i (not_in (m - 2 ^ j) p (omega (arith, rest_below, pow_mono {i = j} {j = p} (omega arith)))))
            ]
      ])

-- where no place is left none passes, and none is counted
pub any_no_place : (g : ℕ → Bool) (k : ℕ) → any_below (λ p. in_mask 0 p && g p) k ≡ false
any_no_place g k = any_false (λ p. in_mask 0 p && g p) k (λ p h. rw (not_in 0 p (pow_pos p)))

pub count_no_place : (g : ℕ → Bool) (k : ℕ) → count_below (λ p. in_mask 0 p && g p) k ≡ 0
unfolding count_below
count_no_place g zero = refl
count_no_place g (suc k) = rw (zero-div (2 ^ k)) (omega (arith, count_no_place g k))
