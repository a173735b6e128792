-- `names` meets its contract. Assumes nothing.
use Rattle.base.specs.List.{list_below}
use Rattle.report.specs.Text.{ascii, names}
use Rattle.report.proofs.lines.names.Goals as goal

pub returns : goal.returns
unfolding names ascii list_below
returns c = rw c.new-lines.ensures at c.push.ensures
