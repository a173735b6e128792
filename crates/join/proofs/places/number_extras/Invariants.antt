-- `number_extras` meets its contract. The loop's invariant: the blocks passed have their places in the result. Assumes nothing.
use Rattle.join.proofs.PlaceLists.{NumberedBelow}
use Rattle.join.proofs.places.number_extras.Given as goal

abbrev pub invariant-loop-j : goal.invariant-loop-j
invariant-loop-j l = NumberedBelow l.matched.left.now l.matched.right.now l.j l.next l.places
