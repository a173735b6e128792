-- `hear` meets its contract. The loop's invariant: the record has heard the senders passed. Assumes nothing.
use mathlib.Core.Path.{◌≡◌}
use Rattle.interpret.specs.Steps.{heard_from}
use Rattle.interpret.proofs.hearing.hear.Given as goal

abbrev pub invariant-loop-p : goal.invariant-loop-p
invariant-loop-p l = l.heard ≡ heard_from l.n l.owner l.kind l.low l.p l.initial.heard
