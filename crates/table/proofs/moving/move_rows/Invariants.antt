-- `move_rows` meets its contract. The loop's invariant: the rows of the places passed are moved, and nothing else is. Assumes nothing.
use mathlib.Core.Path.{◌≡◌}
use Rattle.base.specs.Bytes.{splice}
use Rattle.table.specs.Layout.{rows_offset}
use Rattle.table.specs.Writing.{moved_rows}
use Rattle.table.proofs.moving.move_rows.Given as goal

abbrev pub invariant-loop-i : goal.invariant-loop-i
invariant-loop-i l = l.table ≡ splice l.initial.table rows_offset (moved_rows l.initial.table l.i)
