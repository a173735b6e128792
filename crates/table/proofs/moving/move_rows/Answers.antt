use native.Mathlib.Omega.{arith}
use Rattle.table.proofs.MoveSteps.{rows_turn, none_moved}
use Rattle.table.proofs.moving.move_rows.Goals as goal

pub loop-i-init : goal.loop-i-init
loop-i-init c = none_moved _

pub loop-i-preserved : goal.loop-i-preserved
loop-i-preserved c =
    let l = c.loop-i in
    rows_turn c.args.table.now c.told-table l.i (omega (arith, c.requires)) l.table _ _ l.invariant c.moved_bytes-row.ensures c.put.ensures
