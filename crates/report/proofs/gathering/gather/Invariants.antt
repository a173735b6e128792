-- `gather` meets its contract: each turn makes the step that is due. Assumes nothing.
use mathlib.Core.Path.{◌≡◌}
use lib.ListN.{length}
use Rattle.report.specs.Gathering.{lent_site}
use Rattle.report.proofs.Termination.{work}
use Rattle.report.proofs.GatheringStep.{Leads}
use Rattle.report.proofs.gathering.gather.Given as goal

abbrev pub invariant-loop-table : goal.invariant-loop-table
invariant-loop-table l =
    Leads l.unread l.is_ended l.initial.output l.initial.done.state (lent_site l.initial.table l.initial.records) l.table l.records l.output l.done
    × (length l.table ≡ length l.initial.table) × (length l.records ≡ length l.initial.records)

abbrev pub decreases-loop-table : goal.decreases-loop-table
decreases-loop-table l = work (length l.unread) l.done.state l.done.used
