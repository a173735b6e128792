-- `marks_closed` meets its contract. Assumes nothing.
use mathlib.Core.Path.{sym, ◌∙◌}
use lib.Dec.{eqb}
use Rattle.base.proofs.Sets.{small_mask, none_outside}
use Rattle.table.specs.Layout.{mark_at}
use Rattle.table.proofs.form.marks_closed.Goals as goal

pub returns-else-not-is_interpreted : goal.returns-else-not-is_interpreted
returns-else-not-is_interpreted c =
    let a = c.args in
    let lower = c.requires.lower in
    rw (sym c.is_interpreted.ensures ∙ c.if-not-is_interpreted.false, lower.marks)
    (none_outside a.i (λ j. eqb (mark_at a.table.now j) 1) a.references (small_mask a.references a.i lower.lower))
