-- `renumbered` meets its contract. The loop's invariant: the mask has where the references passed stand. Assumes nothing.
use Rattle.join.proofs.Turns.{Marking}
use Rattle.join.proofs.rows.renumbered.Given as goal

abbrev pub invariant-loop-k : goal.invariant-loop-k
invariant-loop-k l = Marking l.references l.places l.mask l.k-iterator.0
