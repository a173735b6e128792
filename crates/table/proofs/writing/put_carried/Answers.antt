-- `put_carried` meets its contract: the row's bytes with the new references, and the count. Assumes nothing.
use mathlib.Core.Path.{ap, ◌∙◌}
use Prim.Native.Nat.{ℕ}
use lib.ListN.{take, drop}
use Rattle.base.specs.Bytes.{splice}
use Rattle.base.proofs.Parts.{part_size_lem}
use Rattle.table.specs.Layout.{row_size, row_start}
use Rattle.table.specs.Steps.{row_with, with_references}
use Rattle.table.proofs.WriteSteps.{carried_bytes, row_counted}
use Rattle.table.proofs.writing.put_carried.Goals as goal

pub returns : goal.returns
returns c =
    let a = c.args in
    row_counted _ _ _ _ (row_with a.other.now a.j a.references) c.count_of-place.ensures
    (c.write_carried.ensures ∙ ap (splice a.table.now (row_start c.count_of-place.result))
    (ap (λ (n : ℕ). with_references (take n (drop (row_start a.j) a.other.now)) a.references) (part_size_lem (row_start a.j) row_size)
    ∙ carried_bytes a.other.now a.j c.fits-other c.told-other c.requires.1 a.references c.ranges.references.fits))
    c.put.ensures
