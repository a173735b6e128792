-- `new` meets its contract: the bytes pass check 3. Assumes nothing.
use mathlib.Core.Path.{sym, ◌∙◌}
use Rattle.block.proofs.Shape.{shaped}
use Rattle.block.proofs.shaped.ShapedBlock.new.Goals as goal

pub tested-requires : goal.tested-requires
tested-requires c = shaped _ (sym c.well_shaped.ensures ∙ c.if-well_shaped.true)

pub returns-then-well_shaped : goal.returns-then-well_shaped
returns-then-well_shaped c = (c.tested.ensures, shaped _ (sym c.well_shaped.ensures ∙ c.if-well_shaped.true))
