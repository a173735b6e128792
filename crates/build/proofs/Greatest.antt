-- What the greatest of a function's values below a bound is. Assumes nothing.
use mathlib.Core.Path.{◌≡◌}
use mathlib.Core.Logic.{◌≢◌, inl, inr}
use Prim.Native.Nat.{ℕ, zero, suc, ◌≤◌, ◌<◌}
use native.Mathlib.Nat.{eq-or-lt_of_le, le_of_suc-le-suc}
use native.Mathlib.Decide.{dec_le}
use native.Mathlib.Omega.{arith}
use Rattle.build.specs.Building.{greatest_below}

module _ (f : ℕ → ℕ) where
  -- no value is greater
  pub greatest_bounds : (k i : ℕ) → i < k → f i ≤ greatest_below f k
  unfolding greatest_below
  greatest_bounds zero i h = absurd (omega arith)
  greatest_bounds (suc k) i h = elim (eq-or-lt_of_le (le_of_suc-le-suc h)) [
    | inl q ↦ rw q (omega arith)
    | inr l ↦ omega (arith, greatest_bounds k i l)
  ]

  -- it is 0 or the value at some number below k
  pub greatest_reached : (k : ℕ) → greatest_below f k ≢ 0 → (i : ℕ) × (i < k) × (f i ≡ greatest_below f k)
  unfolding greatest_below
  greatest_reached zero n = absurd (n (omega arith))
  greatest_reached (suc k) n = elim (dec_le (greatest_below f k) (f k)) [
    | yes l ↦ (k, omega arith, omega arith)
    | no l ↦
        let w = greatest_reached k (λ e. n (omega arith)) in
        (w.0, omega (arith, w.1), omega (arith, w.2))
  ]
