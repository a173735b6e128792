-- `push_delivery` meets its contract: a line, or nothing where the number is 0. Assumes nothing.
use mathlib.Core.Path.{sym}
use mathlib.Core.List.{append-nil}
use borrow.Author.Tests.{eq-eqb, ne_eqb}
use Rattle.report.specs.Text.{delivery_line, delivery_text}
use Rattle.report.proofs.lines.Lines.push_delivery.Goals as goal

pub returns-then-d-ne0-clause-line : goal.returns-then-d-ne0-clause-line
unfolding delivery_text delivery_line
returns-then-d-ne0-clause-line c =
    rw (ne_eqb c.args.d.number 0 c.if-d-ne0.true, ← c.from.ensures, ← c.from-then-d-ne0.ensures, ← c.from-then-d-ne0-2.ensures) c.push_line.ensures.line

pub returns-else-d-ne0-clause-line : goal.returns-else-d-ne0-clause-line
unfolding delivery_text
returns-else-d-ne0-clause-line c = rw (eq-eqb c.args.d.number 0 c.if-d-ne0.false) (sym (append-nil c.args.self.now))
