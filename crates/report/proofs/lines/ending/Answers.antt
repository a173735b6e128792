-- `ending` meets its contract. Assumes nothing.
use borrow.Author.Tests.{eq-eqb, ne_eqb}
use native.Mathlib.Omega.{arith}
use Rattle.report.specs.Text.{ending}
use Rattle.report.proofs.lines.ending.Goals as goal

pub returns-then-i : goal.returns-then-i
unfolding ending
returns-then-i c = rw (eq-eqb c.args.i 6 (omega arith))

pub returns-else-i : goal.returns-else-i
unfolding ending
returns-else-i c = rw (ne_eqb c.args.i 6 (λ e. omega arith))
