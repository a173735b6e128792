-- `parent_of` meets its contract. The loop's invariant: `parent` is the last of the places passed. Assumes nothing.
use mathlib.Core.Path.{◌≡◌}
use Rattle.table.specs.Layout.{row_at, view_of}
use Rattle.interpret.specs.Steps.{parent_first}
use Rattle.interpret.proofs.parent_of.Given as goal

abbrev pub invariant-loop-listed : goal.invariant-loop-listed
invariant-loop-listed l = l.parent ≡ parent_first (view_of l.table) (row_at l.table l.place) l.places l.listed-index
