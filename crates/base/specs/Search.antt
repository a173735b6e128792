-- The first number below a bound that passes a test. Document 01's "index of first such", "lowest such place" and "all different" are told by it.
-- Assumes nothing.
use Rattle.std.specs.Prelude.{Bool, not, cond, ℕ, zero, suc, ◌<◌, ltb, Option, Some, None}

-- the least number below k that passes the test, and k if there is none
unfoldable pub first_below : (ℕ → Bool) → ℕ → ℕ
first_below test zero = zero
first_below test (suc k) = cond (ltb (first_below test k) k) (first_below test k) (cond (test k) k (suc k))

-- the number where it is below k, and none where it is not
abbrev pub below : ℕ → ℕ → Option ℕ
below k i = cond (ltb i k) (Some i) None

-- the least number below k that passes the test, if one does
abbrev pub found_below : (ℕ → Bool) → ℕ → Option ℕ
found_below test k = below k (first_below test k)

-- whether some number below k passes the test
unfoldable pub any_below : (ℕ → Bool) → ℕ → Bool
any_below test k = ltb (first_below test k) k

-- whether all numbers below k pass the test
unfoldable pub all_below : (ℕ → Bool) → ℕ → Bool
all_below test k = not (any_below (λ i. not (test i)) k)

-- i is the first number of which the proposition P holds; promises use this where definitions use first_below
pub record First (P : ℕ → Type 0) (i : ℕ) : Type 0 where
  pub here : P i
  pub before : (j : ℕ) → j < i → P j → ⊥
