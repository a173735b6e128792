-- `skip_step` meets its contract, one way out after the other. Assumes nothing.
use mathlib.Core.Path.{sym, ap, ◌∙◌}
use native.Mathlib.Omega.{arith}
use Rattle.report.specs.Framing.{handed}
use Rattle.report.proofs.Ways.{skip_cut, skip_last, skip_more}
use Rattle.report.proofs.framing.skip_step.Goals as goal

pub returns-then-piece-left : goal.returns-then-piece-left
returns-then-piece-left c = let a = c.args in c.quiet.ensures ∙ ap handed (sym (skip_cut a.arrivals a.piece.now a.left (omega arith)))

pub returns-then-left-le-PIECE_SIZE : goal.returns-then-left-le-PIECE_SIZE
returns-then-left-le-PIECE_SIZE c = let a = c.args in c.quiet-then-left-le-PIECE_SIZE.ensures ∙ ap handed (sym (skip_last a.arrivals a.piece.now a.left (omega arith) (omega arith)))

pub returns-then-piece-lt-PIECE_SIZE : goal.returns-then-piece-lt-PIECE_SIZE
returns-then-piece-lt-PIECE_SIZE c = let a = c.args in c.quiet-then-piece-lt-PIECE_SIZE.ensures ∙ ap handed (sym (skip_cut a.arrivals a.piece.now a.left (omega arith)))

pub returns : goal.returns
returns c = let a = c.args in c.quiet-2.ensures ∙ ap handed (sym (skip_more a.arrivals a.piece.now a.left (omega arith) (omega arith)))
