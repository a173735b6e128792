-- `split_first` meets its contract, one way out after the other. Assumes nothing.
use native.Mathlib.Omega.{arith}
use Rattle.run.proofs.FrontCall.{way_empty, way_other}
use Rattle.run.proofs.FrontParts.{here, retiring_front, taking_back_front, place_cut, interpretation_front, verdict_cut, length_cut, block_cut, admission_front}
use mathlib.Core.Path.{sym}
use Rattle.run.proofs.call.split_first.Goals as goal

pub returns-in_err-kind : goal.returns-in_err-kind
returns-in_err-kind c = rw c.from_residual.ensures (sym (way_empty _ (omega (arith, c.in_err-kind.ensures.cases))))

pub returns-in_err-verdict-in-0 : goal.returns-in_err-verdict-in-0
returns-in_err-verdict-in-0 c =
    rw c.from_residual-in_err-verdict-in-0.ensures (verdict_cut _ _ _ c.in_ok-kind.ensures.cases.0 c.in-0.is c.in_err-verdict-in-0.ensures.cases)

pub returns-in_err-length-in-0 : goal.returns-in_err-length-in-0
returns-in_err-length-in-0 c =
    rw c.from_residual-in_err-length-in-0.ensures (length_cut _ _ _ c.in_ok-kind.ensures.cases.0 c.in-0.is _ _ c.in_ok-verdict-in-0.ensures.cases.0 c.in_err-length-in-0.ensures)

pub returns-in_err-block-in-0 : goal.returns-in_err-block-in-0
returns-in_err-block-in-0 c =
    let w = c.in_ok-length-in-0.ensures in
    rw c.from_residual-in_err-block-in-0.ensures (block_cut _ _ _ c.in_ok-kind.ensures.cases.0 c.in-0.is _ _ c.in_ok-verdict-in-0.ensures.cases.0 _ _ w.0 w.1 w.2 c.in_err-block-in-0.ensures.cases)

pub returns-in_err-place-in-1 : goal.returns-in_err-place-in-1
returns-in_err-place-in-1 c =
    rw c.from_residual-in_err-place-in-1.ensures (place_cut _ _ _ c.in_ok-kind.ensures.cases.0 c.in-1.is c.in_err-place-in-1.ensures)

pub returns-in_ok-block-in-0 : goal.returns-in_ok-block-in-0
returns-in_ok-block-in-0 c =
    let w = c.in_ok-length-in-0.ensures in
    let p = c.in_ok-block-in-0.ensures.cases in
    admission_front _ _ _ c.in_ok-kind.ensures.cases.0 c.in-0.is _ _ c.in_ok-verdict-in-0.ensures.cases.0 _ _ w.0 w.1 w.2 p.0 _ _ p.1 p.2

pub returns-in_ok-place-in-1 : goal.returns-in_ok-place-in-1
returns-in_ok-place-in-1 c =
    let w = c.in_ok-place-in-1.ensures in
    interpretation_front _ _ _ c.in_ok-kind.ensures.cases.0 c.in-1.is w.0 _ _ w.1 w.2

pub returns-in-2 : goal.returns-in-2
returns-in-2 c = retiring_front _ _ _ c.in_ok-kind.ensures.cases.0 c.in-2.is

pub returns-in-3 : goal.returns-in-3
returns-in-3 c = taking_back_front _ _ _ c.in_ok-kind.ensures.cases.0 c.in-3.is

pub returns-in_default : goal.returns-in_default
returns-in_default c =
    let e = here _ _ _ c.in_ok-kind.ensures.cases.0 in
    sym (way_other _ (λ q. grind (arith, e, q)) (λ q. grind (arith, e, q)) (λ q. grind (arith, e, q)) (λ q. grind (arith, e, q)))
