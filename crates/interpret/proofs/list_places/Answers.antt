use mathlib.Core.Path.{◌≡◌, sym, ◌∙◌}
use mathlib.Core.Bool.{true}
use Prim.Native.Nat.{◌<◌}
use native.Mathlib.Omega.{arith}
use borrow.Author.Rules.{rules}
use Rattle.base.specs.Mask.{in_mask}
use Rattle.block.specs.Limits.{max_references}
use Rattle.table.specs.View.{max_places}
use Rattle.interpret.proofs.Places.{put_start, put_here, put_past, room}
use Rattle.interpret.proofs.list_places.Goals as goal
use Rattle.interpret.proofs.list_places.Goals.{then-in_mask, else-in_mask, After-in_mask}

pub loop-j-init : goal.loop-j-init
loop-j-init c = put_start _ _ c.told-list

-- a place that is listed has room
has_room : (c : After-in_mask) → c.in_mask.result ≡ true → c.loop-j.count < max_references
has_room c e =
    let l = c.loop-j in
    omega (arith, l.invariant.counted, room (in_mask c.args.references) l.j max_places max_references (omega arith) (sym c.in_mask.ensures ∙ e) c.requires.1)

pub loop-j-preserved : goal.loop-j-preserved
loop-j-preserved c =
    let l = c.loop-j in
    let f = in_mask c.args.references in
    elim c.if-in_mask.branch [
      | then-in_mask w ↦ let h = has_room (goal.at.loop-j-preserved c).After-in_mask w.if-in_mask.true in
          rw (w.list-is, w.count-is) (put_here f l.j l.list l.count (sym c.in_mask.ensures ∙ w.if-in_mask.true) h l.invariant)
      | else-in_mask w ↦ rw (w.list-is, w.count-is) (put_past f l.j l.list l.count (sym c.in_mask.ensures ∙ w.if-in_mask.false) l.invariant)
    ]

pub bounds-list-count : goal.bounds-list-count
bounds-list-count c = let h = has_room (goal.at.bounds-list-count c).After-in_mask c.if-in_mask.true in search rules
