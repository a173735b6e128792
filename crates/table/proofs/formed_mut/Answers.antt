-- `formed_mut` meets its contract: a buffer in form has a table's length. Assumes nothing.
use mathlib.Core.Path.{refl, sym, ◌∙◌}
use Rattle.table.proofs.InForm.{whole_table}
use Rattle.table.proofs.formed_mut.Goals as goal

pub returns : goal.returns
returns c = (refl, record { table = whole_table _ (λ b. b.now) _ (sym c.in_form.ensures ∙ c.if-not-in_form.false) c.as_mut_array.ensures.cases; writes_back = tt })
