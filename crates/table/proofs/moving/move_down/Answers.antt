-- `move_down` meets its contract: the rows, zeros at the old last place, then the mark and the count. Assumes nothing.
use Rattle.table.proofs.MoveSteps.{down_is}
use Rattle.table.proofs.moving.move_down.Goals as goal

pub returns : goal.returns
returns c =
    down_is c.args.table.now c.args.left c.told-table c.requires.0 c.requires.1 _ _ _ c.move_rows.ensures c.put.ensures c.put-2.ensures
