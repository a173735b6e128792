-- `round_of` meets its contract: the sums of the round. Assumes nothing.
use mathlib.Core.Path.{refl}
use Rattle.sha256.specs.Sha256.{round}
use Rattle.sha256.proofs.rounds.round_of.Goals as goal

pub returns : goal.returns
unfolding round
returns c = rw (c.t2_of.ensures, c.t1_of-t1.ensures) refl
