use mathlib.Core.Path.{refl, ap, ◌∙◌}
use Prim.Native.Nat.{◌≤◌, ℕ, ◌<◌}
use native.Mathlib.Omega.{arith}
use Rattle.base.specs.Bytes.{splice}
use Rattle.table.specs.View.{max_places}
use Rattle.table.specs.Layout.{view_of}
use Rattle.records.specs.Layout.{part_start}
use Rattle.join.specs.Join.{handed_back}
use Rattle.join.specs.Steps.{extras_below}
use Rattle.join.proofs.PartSteps.{extra_more, held_more, extra_low}
use Rattle.join.proofs.parts.Sides.copy_extras.Goals as goal
use Rattle.join.proofs.parts.Sides.copy_extras.Goals.{then-held-place, else-held-place, After-from-place}

pub loop-j-init : goal.loop-j-init
unfolding extras_below
loop-j-init c = refl

-- the place of a block that is not in the left
free : (c : After-from-place) → c.count_of-held.result ≤ c.from-place.result → c.from-place.result < max_places
free c h =
    let l = c.loop-j in
    let s = c.args.self.now in
    extra_low _ _ s.joinable l.j _ (omega (arith, c.count_of-j-end.ensures)) (c.from-place.ensures ∙ s.numbered.at l.j (omega (arith, c.count_of-j-end.ensures))) (omega (arith, h, c.count_of-held.ensures))

pub copy_part-requires : goal.copy_part-requires
copy_part-requires c = free (goal.at.copy_part-requires c).After-from-place c.if-held-place.true

pub loop-j-preserved : goal.loop-j-preserved
loop-j-preserved c =
    let l = c.loop-j in
    let s = c.args.self.now in
    let third = c.args.third.now in
    let held = c.count_of-held in
    let here = c.from-place.ensures ∙ s.numbered.at l.j (omega (arith, c.count_of-j-end.ensures)) in
    elim c.if-held-place.branch [
      | then-held-place w ↦ extra_more s.left.now s.right.now s.joinable s.left_records.now s.right_records.now third _ _ l.j c.from-place.result l.invariant here
          (omega (arith, w.if-held-place.true, held.ensures))
          (w.third-is ∙ w.copy_part.ensures ∙ ap (λ (i : ℕ). splice l.third (part_start c.from-place.result) (handed_back (view_of s.left.now) (view_of s.right.now) s.left_records.now s.right_records.now i l.j)) held.ensures)
      | else-held-place w ↦ w.third-is ∙ held_more s.left.now s.right.now s.joinable s.left_records.now s.right_records.now third _ l.j c.from-place.result l.invariant here
          (omega (arith, w.if-held-place.false, held.ensures))
    ]
