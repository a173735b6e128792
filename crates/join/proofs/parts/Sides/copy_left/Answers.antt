use mathlib.Core.Path.{refl, ◌∙◌}
use native.Mathlib.Omega.{arith}
use Rattle.join.specs.Join.{copied_below}
use Rattle.join.proofs.PartSteps.{copy_more}
use Rattle.join.proofs.parts.Sides.copy_left.Goals as goal

pub loop-i-init : goal.loop-i-init
unfolding copied_below
loop-i-init c = refl

pub loop-i-preserved : goal.loop-i-preserved
loop-i-preserved c =
    let l = c.loop-i in
    let s = c.args.self.now in
    copy_more s.left.now s.right.now s.joinable s.left_records.now s.right_records.now c.args.third.now _ _ l.i c.from.result (omega (arith, c.count_of-i-end.ensures)) l.invariant
    (c.from.ensures ∙ s.left_found.at l.i (omega (arith, c.count_of-i-end.ensures))) c.copy_part.ensures
