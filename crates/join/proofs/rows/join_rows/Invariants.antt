-- `join_rows` meets its contract. The loop's invariant: the places passed are joined. Assumes nothing.
use mathlib.Core.Path.{◌≡◌}
use Rattle.table.specs.Layout.{view_of}
use Rattle.join.specs.Join.{join_below}
use Rattle.join.proofs.rows.join_rows.Given as goal

abbrev pub invariant-loop-j : goal.invariant-loop-j
invariant-loop-j l = l.left ≡ join_below l.initial.left (view_of l.right) l.j
