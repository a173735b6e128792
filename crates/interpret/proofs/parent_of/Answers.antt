use mathlib.Core.Path.{◌≡◌, refl, sym, ◌∙◌}
use mathlib.Core.Bool.{Bool, true, false, ◌&&◌}
use Prim.Native.Nat.{◌<◌}
use native.Mathlib.Omega.{arith}
use borrow.Author.Rules.{rules}
use Rattle.base.proofs.Tests.{true_not_false}
use Rattle.table.specs.View.{max_places}
use Rattle.table.specs.Layout.{row_at, view_of}
use Rattle.table.specs.Rules.{parent_row}
use Rattle.interpret.specs.Steps.{parent_first}
use Rattle.interpret.proofs.Turns.{parent_in, parent_out}
use Rattle.interpret.proofs.Places.{place_listed}
use Rattle.interpret.proofs.parent_of.Goals as goal
use Rattle.interpret.proofs.parent_of.Goals.{then-refers_to_parent, else-refers_to_parent, After-from-j}

pub loop-listed-init : goal.loop-listed-init
unfolding parent_first
loop-listed-init c = refl

-- of two tests the first of which passes
both : (x y t : Bool) → x ≡ true → t ≡ (x && y) → y ≡ t
both true y t e q = sym q
both false y t e q = true_not_false e refl

-- the place is one of the list
held : (c : After-from-j) → c.from-j.result < max_places
held c =
    omega (arith, c.from-j.ensures, (place_listed c.args.table.now c.args.place c.args.places.now c.requires.2 c.loop-listed.listed-index c.loop-listed-test.true).0)

pub loop-listed-preserved : goal.loop-listed-preserved
loop-listed-preserved c =
    let l = c.loop-listed in
    let a = c.args in
    let v = view_of a.table.now in
    let r = row_at a.table.now a.place in
    let k = l.listed-index in
    let y = rw (← c.from-j.ensures, ← c.requires.1) at (place_listed a.table.now a.place a.places.now c.requires.2 k c.loop-listed-test.true).1 in
    let e : parent_row r (v.row c.from-j.result) ≡ c.refers_to_parent.result =
    rw (← c.site_at-site.ensures, ← c.sequence_at-sequence.ensures) (both _ _ c.refers_to_parent.result y c.refers_to_parent.ensures) in
    elim c.if-refers_to_parent.branch [
      | then-refers_to_parent w ↦ w.parent-is ∙ parent_in v r a.places.now k _ c.from-j.ensures (e ∙ w.if-refers_to_parent.true)
      | else-refers_to_parent w ↦ w.parent-is ∙ l.invariant ∙ parent_out v r a.places.now k _ c.from-j.ensures (e ∙ w.if-refers_to_parent.false)
    ]

pub refers_to_parent-requires : goal.refers_to_parent-requires
refers_to_parent-requires c = let h = held (goal.at.refers_to_parent-requires c).After-from-j in search rules
