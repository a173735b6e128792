-- `pass_over` meets its contract: each turn keeps what the pass comes to. Assumes nothing.
use Prim.Native.Nat.{◌-◌}
use lib.ListN.{length}
use Rattle.shelf.specs.Layout.{waiting_in}
use Rattle.campaigns.proofs.LoopInvariants.{PassInvariant}
use Rattle.campaigns.proofs.passing.pass_over.Given as goal

abbrev pub invariant-loop-p : goal.invariant-loop-p
invariant-loop-p l = PassInvariant l.campaign l.initial.table l.initial.shelf.bytes l.initial.outcomes l.initial.p l.table l.shelf.bytes l.outcomes l.p

abbrev pub decreases-loop-p : goal.decreases-loop-p
decreases-loop-p l = length (waiting_in l.shelf.bytes.now) - l.p.at
