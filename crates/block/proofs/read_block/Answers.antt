-- `read_block` meets its contract: check 3, then the rest. Assumes nothing.
use mathlib.Core.Path.{◌≡◌}
use mathlib.Core.Bool.{false}
use Rattle.block.specs.Reading.{well_shaped, reading}
use Rattle.block.proofs.read_block.Goals as goal

pub returns-in_default : goal.returns-in_default
unfolding reading
returns-in_default c = let f : well_shaped c.args.block.now ≡ false = c.in_default.ensures in rw f
