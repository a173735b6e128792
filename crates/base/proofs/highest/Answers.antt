-- `highest` meets its contract: the zeros above the highest place and that place make the mask's 64 places. Assumes nothing.
use mathlib.Core.Path.{◌≡◌, subst}
use Prim.Native.Nat.{ℕ, suc, ◌-◌, ◌^◌, ◌≤◌, ◌<◌}
use native.Mathlib.Omega.{arith}
use lib.Count.{count_leading_zeros, leading_top}
use borrow.Author.Rules.{rules}
use Rattle.base.proofs.highest.Goals as goal

module _ (m : ℕ) (some : 0 < m) (wide : m < 2 ^ 64) where
  highest_place : (63 - count_leading_zeros 64 m < 64) × (2 ^ (63 - count_leading_zeros 64 m) ≤ m) × (m < 2 ^ suc (63 - count_leading_zeros 64 m))
  highest_place =
      let h = leading_top 64 m some wide in
      let e : h.0 ≡ 63 - count_leading_zeros 64 m = omega (arith, h.1) in
      (omega arith, subst (λ (j : ℕ). 2 ^ j ≤ m) e h.2, subst (λ (j : ℕ). m < 2 ^ suc j) e h.3)

pub returns : goal.returns
returns c = highest_place c.args.mask (search rules) (search rules)
