-- `formed_mut` meets its contract: a buffer in form has a shelf's length. Assumes nothing.
use mathlib.Core.Path.{refl, sym, ◌∙◌}
use Rattle.shelf.proofs.InForm.{whole_shelf}
use Rattle.shelf.proofs.formed_mut.Goals as goal

pub returns : goal.returns
returns c = (refl, record { shelf = whole_shelf _ (λ b. b.now) _ (sym c.in_form.ensures ∙ c.if-not-in_form.false) c.as_mut_array.ensures.cases; writes_back = tt })
