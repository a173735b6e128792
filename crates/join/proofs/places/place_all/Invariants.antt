-- `place_all` meets its contract. The loop's invariant: the places of the blocks passed are found. Assumes nothing.
use Rattle.join.proofs.PlaceLists.{HeldBelow}
use Rattle.join.proofs.places.place_all.Given as goal

abbrev pub invariant-loop-k : goal.invariant-loop-k
invariant-loop-k l = HeldBelow l.table l.other l.k l.places
