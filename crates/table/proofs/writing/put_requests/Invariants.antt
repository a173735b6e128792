-- `put_requests` meets its contract. The loop's invariant: the pairs of the slots passed are put. Assumes nothing.
use mathlib.Core.Path.{◌≡◌}
use Prim.Native.Nat.{ℕ}
use Rattle.base.specs.List.{list_below}
use Rattle.base.specs.Bytes.{Bytes, concat, splice}
use Rattle.base.specs.Number.{pair}
use Rattle.block.specs.Layout.{requests_in, counted_request}
use Rattle.table.proofs.writing.put_requests.Given as goal

-- the pairs of the slots below k
abbrev pub pairs : Bytes → ℕ → Bytes
pairs list k = concat (list_below (λ slot. pair (counted_request (requests_in list) slot)) k)

abbrev pub invariant-loop-slot : goal.invariant-loop-slot
invariant-loop-slot l = l.table ≡ splice l.initial.table l.at (pairs l.list l.slot)
