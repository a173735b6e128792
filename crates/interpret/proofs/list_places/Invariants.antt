-- `list_places` meets its contract. The loop's invariant: the places passed that are in the mask are listed. Assumes nothing.
use Rattle.base.specs.Mask.{in_mask}
use Rattle.interpret.proofs.Places.{ListedBelow}
use Rattle.interpret.proofs.list_places.Given as goal

abbrev pub invariant-loop-j : goal.invariant-loop-j
invariant-loop-j l = ListedBelow (in_mask l.references) l.j l.list l.count
