-- `copy_left` meets its contract. The loop's invariant: the parts of the places passed are copied. Assumes nothing.
use mathlib.Core.Path.{◌≡◌}
use Rattle.table.specs.Layout.{view_of}
use Rattle.join.specs.Join.{copied_below}
use Rattle.join.proofs.parts.Sides.copy_left.Given as goal

abbrev pub invariant-loop-i : goal.invariant-loop-i
invariant-loop-i l = l.third ≡ copied_below (view_of l.self.left.now) (view_of l.self.right.now) l.self.left_records.now l.self.right_records.now l.self.left.now l.initial.third l.i
