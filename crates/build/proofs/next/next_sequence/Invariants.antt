-- `next_sequence` meets its contract. The loop's invariant: `next` is the greatest of the places passed. Assumes nothing.
use mathlib.Core.Path.{◌≡◌}
use Rattle.base.specs.Mask.{in_mask}
use Rattle.table.specs.Layout.{view_of}
use Rattle.build.specs.Building.{greatest_below, sequence_after}
use Rattle.build.proofs.next.next_sequence.Given as goal

abbrev pub invariant-loop-i : goal.invariant-loop-i
invariant-loop-i l = l.next ≡ greatest_below (sequence_after (in_mask l.own.seen) (view_of l.own.table.now) l.own.site) l.i
