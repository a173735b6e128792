use native.Mathlib.Omega.{arith}
use mathlib.Core.Path.{sym, ap, ◌∙◌}
use Rattle.block.specs.declared.Request.{Request}
use Rattle.block.proofs.Counting.{here, past, none}
use Rattle.block.proofs.requests.counted_request.Goals as goal

pub returns-then-q-slot : goal.returns-then-q-slot
returns-then-q-slot c =
    let l = c.loop-i in
    let a = c.args in
    let e = c.request-q.ensures in
    ap (λ (q : Request). q.number) e
    ∙ sym (l.invariant ∙ here a.list.now a.slot l.i (omega arith) (ap (λ (q : Request). q.slot) (sym e) ∙ c.if-q-slot.true))

pub loop-i-preserved : goal.loop-i-preserved
loop-i-preserved c =
    let l = c.loop-i in
    let a = c.args in
    let e = c.request-q.ensures in
    l.invariant ∙ past a.list.now a.slot l.i (omega arith) (λ q. c.if-q-slot.false (ap (λ (x : Request). x.slot) e ∙ q))

pub returns : goal.returns
returns c = let l = c.loop-i in let a = c.args in sym (l.invariant ∙ none a.list.now a.slot l.i (omega arith))
