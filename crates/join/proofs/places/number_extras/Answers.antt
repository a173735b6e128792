use Prim.Native.Nat.{◌<◌}
use native.Mathlib.Omega.{arith}
use Rattle.table.specs.Layout.{count_of}
use Rattle.table.proofs.InForm.{formed_places}
use Rattle.join.proofs.PlaceLists.{number_start, number_held, number_extra}
use Rattle.join.proofs.places.number_extras.Goals as goal
use Rattle.join.proofs.places.number_extras.Goals.{then-held-from, else-held-from, Start}

pub loop-j-init : goal.loop-j-init
loop-j-init c = number_start _ _ _ _ (omega arith) c.args.matched.now.right_found c.count_of-held.ensures

pub loop-j-preserved : goal.loop-j-preserved
loop-j-preserved c =
    let l = c.loop-j in
    let m = c.args.matched.now in
    let below : l.j < count_of m.right.now = omega (arith, c.count_of-j-end.ensures) in
    let few = formed_places _ m.formed.right_formed in
    elim c.if-held-from.branch [
      | then-held-from w ↦ rw (w.places-is, w.next-is) (number_extra _ _ l.j l.next l.places l.invariant below (omega arith) (omega (arith, c.from.ensures, w.if-held-from.true, c.count_of-held.ensures)))
      | else-held-from w ↦ rw (w.places-is, w.next-is) (number_held _ _ l.j l.next l.places l.invariant below (omega (arith, c.from.ensures, w.if-held-from.false, c.count_of-held.ensures)))
    ]
