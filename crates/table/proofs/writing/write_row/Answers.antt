-- `write_row` meets its contract: the fields are put one behind the other, in the layout's order. Assumes nothing.
use mathlib.Core.Path.{◌∙◌}
use borrow.Author.Rules.{rules}
use Rattle.base.proofs.Words.{pair_of_number, low_first_of_word}
use Rattle.table.proofs.WriteSteps.{row_written_lem}
use Rattle.table.proofs.writing.write_row.Goals as goal

pub returns : goal.returns
returns c =
    let a = c.args in
    row_written_lem a.table.now a.at a.digest.now a.site a.sequence a.references a.requests.now
    (search rules) (search rules) c.ranges.references.fits _ _ _ _ _ _ _ _
    c.put.ensures c.put-2.ensures (c.to_be_bytes.ensures ∙ pair_of_number a.sequence c.ranges.sequence.fits) c.put-3.ensures
    (c.to_le_bytes.ensures ∙ low_first_of_word a.references) c.put-4.ensures c.put_requests.ensures c.put-5.ensures
