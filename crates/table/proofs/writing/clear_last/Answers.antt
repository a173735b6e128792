-- `clear_last` meets its contract: zeros, then the count. Assumes nothing.
use Rattle.table.proofs.ClearedRow.{cleared_is}
use Rattle.table.proofs.writing.clear_last.Goals as goal

pub returns : goal.returns
returns c =
    cleared_is c.args.table.now c.args.last c.requires.0 _ _ c.put.ensures c.put-2.ensures
