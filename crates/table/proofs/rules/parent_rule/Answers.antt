-- `parent_rule` meets its contract. Assumes nothing.
use borrow.Author.Tests.{eq-eqb, ne_eqb}
use Rattle.table.specs.Rules.{parent_rule}
use Rattle.table.proofs.rules.parent_rule.Goals as goal

pub returns-then-sequence-eq0 : goal.returns-then-sequence-eq0
unfolding parent_rule
returns-then-sequence-eq0 c = rw (eq-eqb _ 0 c.if-sequence-eq0.true)

pub returns-else-sequence-eq0 : goal.returns-else-sequence-eq0
unfolding parent_rule
returns-else-sequence-eq0 c = rw (ne_eqb _ 0 c.if-sequence-eq0.false, c.parents_among.ensures)
