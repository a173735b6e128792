-- `put_row` meets its contract: the row, then the count. Assumes nothing.
use Rattle.table.specs.Steps.{new_row}
use Rattle.table.proofs.WriteSteps.{row_counted}
use Rattle.table.proofs.writing.put_row.Goals as goal

pub returns : goal.returns
returns c =
    let a = c.args in
    row_counted _ _ _ _ (new_row a.digest.now a.site a.sequence a.references a.requests.now) c.count_of-place.ensures c.write_row.ensures c.put.ensures
