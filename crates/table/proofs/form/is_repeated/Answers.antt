-- `is_repeated` meets its contract: a print that is not among those below is that of a new digest, and else all lower digests are compared.
-- Assumes nothing.
use mathlib.Core.Path.{sym, ap, ap₂, ◌∙◌}
use Rattle.base.specs.Search.{any_below}
use Rattle.base.specs.Mask.{in_mask}
use Rattle.base.proofs.Search.{any_some}
use Rattle.base.specs.Bytes.{Bytes}
use Rattle.table.specs.Layout.{view_of}
use Rattle.table.specs.Rules.{has_digest}
use Rattle.table.proofs.Prints.{new_digest}
use Rattle.table.proofs.form.is_repeated.Goals as goal

pub returns-then-in_mask : goal.returns-then-in_mask
returns-then-in_mask c =
    let test = λ (d : Bytes). has_digest (view_of c.args.table.now) d in
    c.is_some.ensures ∙ any_some (test c.digest_at.result.now) c.args.i c.place_of.result c.place_of.ensures
    ∙ ap (λ (d : Bytes). any_below (test d) c.args.i) c.digest_at.ensures

pub returns-else-in_mask : goal.returns-else-in_mask
returns-else-in_mask c =
    c.if-in_mask.false ∙ sym (new_digest c.args.table.now c.args.i
    (sym (c.in_mask.ensures ∙ ap₂ in_mask c.requires.1 c.print_at.ensures) ∙ c.if-in_mask.false))
