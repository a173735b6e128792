use mathlib.Core.Path.{◌≡◌, refl, sym, ap, ◌∙◌}
use Prim.Native.Nat.{ℕ}
use lib.ListN.{get_or}
use Rattle.broadcast.specs.Process.{received}
use Rattle.interpret.specs.Steps.{heard_from}
use Rattle.interpret.proofs.Turns.{hear_in, hear_out}
use Rattle.interpret.proofs.hearing.hear.Goals as goal
use Rattle.interpret.proofs.hearing.hear.Goals.{then-number-ne0, else-number-ne0}

pub loop-p-init : goal.loop-p-init
unfolding heard_from
loop-p-init c = refl

pub loop-p-preserved : goal.loop-p-preserved
loop-p-preserved c =
    let l = c.loop-p in
    let a = c.args in
    let e : get_or a.low.now c.from.result 0 ≡ get_or a.low.now l.p 0 = ap (λ (x : ℕ). get_or a.low.now x 0) c.from.ensures in
    elim c.if-number-ne0.branch [
      | then-number-ne0 w ↦ w.heard-is ∙ w.receive.ensures ∙ ap (received l.heard a.n a.owner a.kind l.p) e ∙ hear_in a.n a.owner a.kind a.low.now a.state l.heard l.p l.invariant
      | else-number-ne0 w ↦ w.heard-is ∙ hear_out a.n a.owner a.kind a.low.now a.state l.heard l.p l.invariant (sym e ∙ w.if-number-ne0.false)
    ]
