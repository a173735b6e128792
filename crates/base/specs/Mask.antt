-- A set of numbers as a mask: number p is in the set where bit p is 1. The library's `ones` counts the numbers in a mask. Assumes nothing.
use Rattle.std.specs.Prelude.{Bool, cond, ℕ, zero, suc, ◌+◌, ◌*◌, ◌/◌, ◌%◌, ◌^◌, eqb}

-- the mask of the numbers below k that pass the test: the sum of 2 ^ p over each p that does
unfoldable pub mask_below : (ℕ → Bool) → ℕ → ℕ
mask_below test zero = 0
mask_below test (suc k) = cond (test k) 1 0 * 2 ^ k + mask_below test k

-- bit p of a mask, 0 or 1
abbrev pub bit_at : ℕ → ℕ → ℕ
bit_at mask p = mask / 2 ^ p % 2

-- whether number p is in the mask
abbrev pub in_mask : ℕ → ℕ → Bool
in_mask mask p = eqb (bit_at mask p) 1
