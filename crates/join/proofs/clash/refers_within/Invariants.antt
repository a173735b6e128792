-- `refers_within` meets its contract. The loop's invariant: a block that stands elsewhere is among the references left, if there is one. Assumes
-- nothing.
use mathlib.Core.Path.{◌≡◌}
use mathlib.Core.Bool.{Bool}
use mathlib.Core.List.{List}
use Prim.Native.Nat.{ℕ}
use lib.ListN.{get_or}
use Rattle.base.specs.Mask.{in_mask}
use Rattle.join.proofs.Turns.{some_fails}
use Rattle.join.proofs.clash.refers_within.Given as goal

-- the block of a reference stands at a place of the mask
abbrev pub stands : List ℕ → ℕ → ℕ → Bool
stands places mask k = in_mask mask (get_or places k 0)

abbrev pub invariant-loop-k : goal.invariant-loop-k
invariant-loop-k l = some_fails l.k-iterator.0 (stands l.places l.mask) ≡ some_fails l.references (stands l.places l.mask)
