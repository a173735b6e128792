-- `write_carried` meets its contract: the bytes up to the references, the references, and the rest. Assumes nothing.
use mathlib.Core.Path.{refl, ◌∙◌}
use native.Mathlib.Omega.{arith}
use Rattle.base.proofs.Parts.{rest_part}
use Rattle.base.proofs.Words.{low_first_of_word}
use Rattle.table.specs.Layout.{requests_offset}
use Rattle.table.proofs.WriteSteps.{carried_written}
use Rattle.table.proofs.writing.write_carried.Goals as goal

pub returns : goal.returns
returns c =
    carried_written c.args.table.now _ _ _ c.args.row.now _ _ _ c.args.at c.args.references (omega (arith, c.requires.0)) c.requires.1
    refl c.put.ensures (c.to_le_bytes.ensures ∙ low_first_of_word c.args.references) c.put-2.ensures
    (rest_part c.args.row.now requests_offset) c.put-3.ensures
