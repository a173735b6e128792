-- `in_form` meets its contract: one test after the other. Assumes nothing.
use mathlib.Core.Path.{◌≡◌, sym, ap, ◌∙◌}
use mathlib.Core.Bool.{true}
use Prim.Native.Nat.{◌≤◌}
use lib.ListN.{length}
use borrow.Author.Rules.{rules}
use borrow.Author.Tests.{eq-eqb, ne_eqb}
use Rattle.base.proofs.Parts.{rest_part}
use Rattle.table.specs.View.{max_places}
use Rattle.table.specs.Layout.{table_size, row_start, setup_of, count_of, view_of}
use Rattle.table.specs.Rules.{held_in_form}
use Rattle.table.specs.Form.{in_form}
use Rattle.table.proofs.Views.{held_of}
use Rattle.table.proofs.in_form.Goals as goal
use Rattle.table.proofs.in_form.Goals.{After-count_of, Else-not-held_in_form}

held : (c : Else-not-held_in_form) → let t = c.in-Some.table.now in held_in_form (setup_of t) (view_of t) ≡ true
held c = sym c.held_in_form.ensures ∙ c.if-not-held_in_form.false

-- so the rows end within the table
counted : (c : After-count_of) → c.count_of.result ≤ max_places
counted c = rw (← c.count_of.ensures) at (held_of _ _ (held (goal.at.After-count_of c).Else-not-held_in_form)).fits

pub returns-in_default : goal.returns-in_default
unfolding in_form
returns-in_default c = rw (ne_eqb (length c.args.table.now) table_size c.in_default.ensures.cases)

pub returns-then-not-held_in_form : goal.returns-then-not-held_in_form
unfolding in_form
returns-then-not-held_in_form c = let w = c.in-Some.ensures.cases in rw (eq-eqb (length c.args.table.now) table_size w.long, ← w.same, sym c.held_in_form.ensures ∙ c.if-not-held_in_form.true)

pub returns : goal.returns
unfolding in_form
returns c =
    let w = c.in-Some.ensures.cases in
    let t = c.in-Some.table.now in
    rw (eq-eqb (length c.args.table.now) table_size w.long, ← w.same, held (goal.at.returns c).Else-not-held_in_form, ← rest_part t (row_start (count_of t)), ap length w.same ∙ w.long, ← c.count_of.ensures)
    c.all_zero.ensures

pub slice_bounds-all_zero-count : goal.slice_bounds-all_zero-count
slice_bounds-all_zero-count c = let h = counted (goal.at.slice_bounds-all_zero-count c).After-count_of in search rules

pub slice_bounds-all_zero-start : goal.slice_bounds-all_zero-start
slice_bounds-all_zero-start c = let h = counted (goal.at.slice_bounds-all_zero-start c).After-count_of in search rules
