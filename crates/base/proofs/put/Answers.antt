-- `put` meets its contract: a copy into the part that starts at the index. Assumes nothing.
use Rattle.base.proofs.Splice.{splice_of_part}
use Rattle.base.proofs.put.Goals as goal

pub returns : goal.returns
returns g c = splice_of_part c.args.items.now c.args.part.now _ c.args.at c.copy_from_slice.ensures.after
