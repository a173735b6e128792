-- `settle` meets its contract: each pass keeps what the passes come to. Assumes nothing.
use mathlib.Core.Bool.{true}
use lib.ListN.{length}
use Rattle.shelf.specs.Layout.{waiting_in}
use Rattle.campaigns.proofs.LoopInvariants.{PassesInvariant}
use Rattle.campaigns.proofs.settle.Given as goal

abbrev pub invariant-loop-campaign : goal.invariant-loop-campaign
invariant-loop-campaign l = PassesInvariant l.campaign l.initial.table l.initial.shelf.bytes l.initial.outcomes l.table l.shelf.bytes l.outcomes l.ended true

abbrev pub decreases-loop-campaign : goal.decreases-loop-campaign
decreases-loop-campaign l = length (waiting_in l.shelf.bytes.now)
