use Rattle.std.proofs.Common.{◌≤◌, length}
use Rattle.listing.proofs.list.Given as goal

abbrev pub invariant-loop : goal.invariant-loop
invariant-loop g l = l.progress.front.count ≤ length l.input
