-- `formed` meets its contract: a buffer in form has a table's length. Assumes nothing.
use mathlib.Core.Path.{sym, ◌∙◌}
use Rattle.table.proofs.InForm.{whole_table}
use Rattle.table.proofs.formed.Goals as goal

pub returns : goal.returns
returns c = whole_table _ (λ b. b.now) _ (sym c.in_form.ensures ∙ c.if-not-in_form.false) c.as_array.ensures.cases
