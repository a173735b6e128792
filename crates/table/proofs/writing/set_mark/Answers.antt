-- `set_mark` meets its contract. Assumes nothing.
use borrow.Author.Rules.{rules}
use Rattle.table.specs.Layout.{with_mark}
use Rattle.table.proofs.writing.set_mark.Goals as goal

pub returns : goal.returns
unfolding with_mark
returns c = search rules
