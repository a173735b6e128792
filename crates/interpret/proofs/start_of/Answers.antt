-- `start_of` meets its contract: there is a parent, or none. Assumes nothing.
use Rattle.interpret.specs.Steps.{state_at}
use Rattle.interpret.proofs.start_of.Goals as goal

pub returns-in-Some : goal.returns-in-Some
unfolding state_at
returns-in-Some c = rw (c.in-Some.is, c.record_in.ensures, c.blank-blank.ensures)

pub returns-in-None : goal.returns-in-None
unfolding state_at
returns-in-None c = rw c.in-None.is c.blank-blank.ensures
