-- `names_and_refusal` meets its contract: there is room behind the names. Assumes nothing.
use mathlib.Core.Path.{◌≡◌, refl, ap}
use native.Mathlib.Omega.{arith}
use lib.ListN.{length}
use Rattle.base.specs.List.{list_below}
use Rattle.report.specs.Text.{ascii, names}
use Rattle.report.proofs.lines.names_and_refusal.Goals as goal

names_length : length names ≡ 43
unfolding names ascii list_below
names_length = refl

pub push_refusal-requires : goal.push_refusal-requires
push_refusal-requires c = omega (arith, ap length c.names-lines.ensures, names_length)
