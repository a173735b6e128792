-- `copy_extras` meets its contract. The loop's invariant: the parts of the blocks passed that are not in the left are copied. Assumes nothing.
use mathlib.Core.Path.{◌≡◌}
use Rattle.join.specs.Steps.{extras_below}
use Rattle.join.proofs.parts.Sides.copy_extras.Given as goal

abbrev pub invariant-loop-j : goal.invariant-loop-j
invariant-loop-j l = l.third ≡ extras_below l.self.left.now l.self.right.now l.self.left_records.now l.self.right_records.now l.initial.third l.j
