-- `references` meets its contract: the site's greatest block first, if it has one, then the others. Assumes nothing.
use mathlib.Core.Path.{ap, ◌∙◌}
use Rattle.base.specs.Bytes.{Bytes}
use Rattle.build.specs.Steps.{greatest_in, others_in, with_digests}
use Rattle.build.proofs.PickedReferences.{picked_is}
use Rattle.build.proofs.picking.NextBlock.references.Goals as goal

pub returns : goal.returns
returns c =
    let b = c.args.self in
    let t : Bytes = b.own.table.now in
    c.put_others.ensures
    ∙ ap (with_digests t (others_in t b.own.seen b.own.site)) (c.put_greatest.ensures ∙ ap (with_digests t (greatest_in t b.own.seen b.own.site)) c.new-references.ensures)
    ∙ picked_is t b.own.seen b.own.site b.formed b.held
