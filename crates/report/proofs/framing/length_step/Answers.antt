-- `length_step` meets its contract, one way out after the other. Assumes nothing.
use mathlib.Core.Path.{◌≡◌, sym, ap, ◌∙◌}
use native.Mathlib.Numerals.{add-one}
use native.Mathlib.Omega.{arith}
use borrow.Author.Tests.{eqb-true, eqb-false, lt-ltb, le-ltb}
use Rattle.block.specs.Limits.{max_block_size}
use Rattle.report.specs.Arrivals.{block_length}
use Rattle.base.proofs.Words.{number_of_pair}
use Rattle.report.specs.Framing.{handed}
use Rattle.report.proofs.Ways.{length_none, length_cut, length_over, length_fits}
use Rattle.report.proofs.framing.length_step.Goals as goal
use Rattle.report.proofs.framing.length_step.Goals.{After-from-size}

-- ---- the places of the walk

-- the length that the first two bytes say
said : (c : After-from-size) → c.from-size.result ≡ block_length c.args.piece.now
said c = c.from-size.ensures ∙ c.from_be_bytes.ensures ∙ number_of_pair _ _

pub returns-then-piece-lt-LENGTH_SIZE : goal.returns-then-piece-lt-LENGTH_SIZE
returns-then-piece-lt-LENGTH_SIZE c =
    let a = c.args in
    c.stepped.ensures ∙ rw c.refused.ensures (ap handed (sym (length_cut a.arrivals a.piece.now (let n = eqb-false _ _ (sym c.is_empty.ensures ∙ c.if-is_empty.false) in omega arith) (omega arith))))

pub returns-then-size-gt-MAX_BLOCK_SIZE : goal.returns-then-size-gt-MAX_BLOCK_SIZE
returns-then-size-gt-MAX_BLOCK_SIZE c =
    let a = c.args in
    c.stepped-then-size-gt-MAX_BLOCK_SIZE.ensures
    ∙ rw (c.refused-then-size-gt-MAX_BLOCK_SIZE.ensures, add-one, said (goal.at.returns-then-size-gt-MAX_BLOCK_SIZE c).After-from-size)
    (ap handed (sym (length_over a.arrivals a.piece.now (omega arith) (lt-ltb max_block_size (block_length a.piece.now) (omega arith)))))

pub returns : goal.returns
returns c =
    let a = c.args in
    c.quiet-2.ensures
    ∙ rw (said (goal.at.returns c).After-from-size) (ap handed (sym (length_fits a.arrivals a.piece.now (omega arith) (le-ltb max_block_size (block_length a.piece.now) (omega arith)))))

pub returns-then-is_empty : goal.returns-then-is_empty
returns-then-is_empty c = let a = c.args in c.quiet.ensures ∙ ap handed (sym (length_none a.arrivals a.piece.now (eqb-true _ _ (sym c.is_empty.ensures ∙ c.if-is_empty.true))))
