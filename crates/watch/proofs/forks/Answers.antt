-- `forks` meets its contract: one way out for a table that is not in form, and one for a table that is. Assumes nothing.
use mathlib.Core.Path.{◌≡◌}
use mathlib.Core.Bool.{true}
use Rattle.table.specs.Form.{in_form}
use Rattle.watch.specs.Forks.{forks}
use Rattle.watch.proofs.InForm.{ready}
use Rattle.watch.proofs.forks.Goals as goal
use Rattle.watch.proofs.forks.Goals.{In-Some}

formed : (c : In-Some) → in_form c.in-Some.table.now ≡ true
formed c = rw c.in-Some.ensures.0 c.in-Some.ensures.1

pub returns-in_default : goal.returns-in_default
unfolding forks
returns-in_default c = rw c.in_default.ensures

pub returns : goal.returns
unfolding forks
returns c =
    rw (← c.in-Some.ensures.0, formed (goal.at.returns c).In-Some, ← c.forked_mask-sites.ensures, ← c.sites_of.ensures, ← c.faults.ensures)

pub forked_mask-sites-requires : goal.forked_mask-sites-requires
forked_mask-sites-requires c = ready _ (formed (goal.at.forked_mask-sites-requires c).In-Some)
