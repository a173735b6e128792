-- `plus_of` meets its contract: eight sums. Assumes nothing.
use mathlib.Core.Path.{refl}
use Rattle.sha256.specs.Sha256.{plus}
use Rattle.sha256.proofs.hash.plus_of.Goals as goal

pub returns : goal.returns
unfolding plus
returns c = refl
