-- `counted_request` meets its contract. The loop's invariant: what counts among the requests left is what counts among all.
-- Assumes nothing.
use mathlib.Core.Path.{◌≡◌}
use Rattle.block.specs.Layout.{requests_in, counted_request}
use Rattle.block.proofs.Counting.{from}
use Rattle.block.proofs.requests.counted_request.Given as goal

abbrev pub invariant-loop-i : goal.invariant-loop-i
invariant-loop-i l = (counted_request (requests_in l.list) l.slot ≡ counted_request (from l.list l.i) l.slot)
