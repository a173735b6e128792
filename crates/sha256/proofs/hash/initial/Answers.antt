-- `initial` meets its contract: the eight words are the standard's.
-- Assumes nothing.
use mathlib.Core.Path.{refl}
use Rattle.sha256.specs.Sha256.{H0}
use Rattle.sha256.proofs.hash.initial.Goals as goal

pub returns : goal.returns
unfolding H0
returns c = refl
