-- `push_refusal` meets its contract. Assumes nothing.
use Rattle.report.specs.Text.{refusal_line}
use Rattle.report.proofs.lines.Lines.push_refusal.Goals as goal

pub returns : goal.returns
unfolding refusal_line
returns c = rw (← c.number.ensures, ← c.from.ensures) c.push_line.ensures.line
