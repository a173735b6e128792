-- `is_repeated` meets its contract: a search among the references before it answers one. Assumes nothing.
use mathlib.Core.Path.{ap, ◌∙◌}
use Rattle.base.specs.Search.{any_below}
use Rattle.base.specs.Bytes.{Bytes, same_bytes}
use Rattle.base.proofs.Search.{any_some}
use Rattle.block.specs.Layout.{reference_at}
use Rattle.block.proofs.references.is_repeated.Goals as goal

pub returns : goal.returns
returns c =
    let list = c.args.list.now in
    c.is_some.ensures ∙ any_some _ c.args.i _ c.first_same.ensures
    ∙ ap (λ (key : Bytes). any_below (λ j. same_bytes (reference_at list j) key) c.args.i) c.reference.ensures
