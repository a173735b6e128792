-- `first_of_repeated_slot` meets its contract. The loop's invariant: the mask has the slots of the requests passed, and none of these has the slot of
-- an earlier one. Assumes nothing.
use mathlib.Core.Path.{◌≡◌}
use Rattle.base.specs.Search.{first_below}
use Rattle.block.specs.Reading.{slot_repeated_at}
use Rattle.block.specs.Steps.{NoneBad, slots_met}
use Rattle.block.proofs.requests.first_of_repeated_slot.Given as goal

abbrev pub invariant-loop-i : goal.invariant-loop-i
invariant-loop-i l =
    NoneBad l.list × (l.met ≡ slots_met l.list l.i) × (first_below (slot_repeated_at l.list) l.i ≡ l.i)
