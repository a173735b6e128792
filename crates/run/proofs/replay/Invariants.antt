-- `replay` meets its contract: the loop keeps what proofs/ReplayInvariant.antt says of each turn. Assumes nothing.
use lib.ListN.{length}
use Rattle.run.proofs.ReplayInvariant.{ReplayInvariant}
use Rattle.run.proofs.replay.Given as goal

abbrev pub invariant-loop-call : goal.invariant-loop-call
invariant-loop-call l =
    ReplayInvariant l.calls (record { table = l.initial.table; records = l.initial.records }) l.initial.answers (record { table = l.table; records = l.records }) l.answers l.count l.rest

abbrev pub decreases-loop-call : goal.decreases-loop-call
decreases-loop-call l = length l.rest
