-- `parent_in_form` meets its contract: one test after the other, on one count of the parents. Assumes nothing.
use mathlib.Core.Path.{◌≡◌, sym}
use mathlib.Core.Bool.{false}
use lib.Dec.{eqb}
use borrow.Author.Tests.{eq-eqb, ne_eqb}
use Rattle.table.specs.Layout.{sequence_at, view_of}
use Rattle.table.specs.Rules.{parents, parent_rule, parent_in_form}
use Rattle.table.specs.Steps.{row_with}
use Rattle.table.proofs.form.parent_in_form.Goals as goal
use Rattle.table.proofs.form.parent_in_form.Goals.{After-parents_among-parents, Else-parents-eq1}

later : (c : After-parents_among-parents) → let a = c.args in eqb (sequence_at a.table.now a.i) 0 ≡ false
later c = rw (← c.sequence_at-sequence.ensures) (ne_eqb _ 0 c.if-sequence-eq0.false)

counted : (c : After-parents_among-parents) → let a = c.args in parents (view_of a.table.now) a.i (row_with a.table.now a.i a.references) ≡ c.parents_among-parents.result
unfolding parents
counted c = sym (rw (c.site_at.ensures, c.sequence_at-sequence.ensures) at c.parents_among-parents.ensures)

pub returns-then-sequence-eq0 : goal.returns-then-sequence-eq0
unfolding parent_in_form parent_rule
returns-then-sequence-eq0 c = rw (← c.sequence_at-sequence.ensures, eq-eqb _ 0 c.if-sequence-eq0.true)

pub returns-then-parents-eq1 : goal.returns-then-parents-eq1
unfolding parent_in_form parent_rule
returns-then-parents-eq1 c = rw (later (goal.at.returns-then-parents-eq1 c).After-parents_among-parents, counted (goal.at.returns-then-parents-eq1 c).After-parents_among-parents, c.if-parents-eq1.true)

-- not exactly one
other : (c : Else-parents-eq1) → eqb c.parents_among-parents.result 1 ≡ false
other c = ne_eqb _ 1 c.if-parents-eq1.false

pub returns-then-may_lack_parent : goal.returns-then-may_lack_parent
unfolding parent_in_form parent_rule
returns-then-may_lack_parent c =
    rw (later (goal.at.returns-then-may_lack_parent c).After-parents_among-parents, counted (goal.at.returns-then-may_lack_parent c).After-parents_among-parents, other (goal.at.returns-then-may_lack_parent c).Else-parents-eq1, ← c.may_lack_parent.ensures, c.if-may_lack_parent.true)

pub returns-else-may_lack_parent : goal.returns-else-may_lack_parent
unfolding parent_in_form parent_rule
returns-else-may_lack_parent c =
    rw (later (goal.at.returns-else-may_lack_parent c).After-parents_among-parents, counted (goal.at.returns-else-may_lack_parent c).After-parents_among-parents, other (goal.at.returns-else-may_lack_parent c).Else-parents-eq1, ← c.may_lack_parent.ensures, c.if-may_lack_parent.false)
