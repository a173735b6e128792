-- `owner_of` meets its contract. Assumes nothing.
use borrow.Author.Rules.{rules}
use Rattle.table.proofs.rows.owner_of.Goals as goal

pub returns : goal.returns
returns c = let h = c.told-table in search rules
