-- `join_place` meets its contract: the block is put behind, marked, or left as it is. Assumes nothing.
use mathlib.Core.Path.{sym, ap, ◌∙◌}
use Prim.Native.Nat.{ℕ, ◌≤◌, ◌<◌}
use native.Mathlib.Omega.{arith}
use lib.ListN.{get_or}
use borrow.Author.Rules.{rules}
use borrow.Author.Tests.{eqb-true, eqb-false}
use Rattle.table.specs.Layout.{count_of, with_row}
use Rattle.table.specs.Steps.{row_with}
use Rattle.join.specs.Steps.{renumbered_by}
use Rattle.join.proofs.PlacesInvariant.{table_sized, right_place, each, next_place, put_is, mark_is, leave_is}
use Rattle.join.proofs.rows.join_place.Goals as goal
use Rattle.join.proofs.rows.join_place.Goals.{Else-count_of-place, Then-count_of-place}

pub bounds-places-j : goal.bounds-places-j
bounds-places-j c =
    let l = right_place _ _ _ _ c.requires in
    search rules

-- ---- the block is not held

behind : (c : Then-count_of-place) → let a = c.args in count_of a.table.now ≤ get_or a.places.now a.j 0
behind c = omega (arith, c.count_of.ensures, c.from-place.ensures, c.if-count_of-place.true)

pub renumbered-references-requires : goal.renumbered-references-requires
renumbered-references-requires c =
    rw c.references_at.ensures (each _ _ _ _ c.requires)

pub put_carried-requires : goal.put_carried-requires
put_carried-requires c =
    (next_place _ _ _ _ c.requires (behind (goal.at.put_carried-requires c).Then-count_of-place), right_place _ _ _ _ c.requires)

pub returns-then-count_of-place : goal.returns-then-count_of-place
returns-then-count_of-place c =
    let a = c.args in
    put_is a.table.now a.right.now a.j a.places.now c.requires (behind (goal.at.returns-then-count_of-place c).Then-count_of-place) _
    (c.put_carried.ensures ∙ ap (λ (m : ℕ). with_row a.table.now (row_with a.right.now a.j m))
    (c.renumbered-references.ensures ∙ ap (λ (r : ℕ). renumbered_by r a.places.now) c.references_at.ensures))

-- ---- the block is held

low : (c : Else-count_of-place) → let a = c.args in get_or a.places.now a.j 0 < count_of a.table.now
low c = omega (arith, c.count_of.ensures, c.from-place.ensures, c.if-count_of-place.false)

-- its place in numbers
bound : (c : Else-count_of-place) → c.from-place.result < 64
bound c =
    omega (arith, low c, c.from-place.ensures, table_sized _ _ _ _ c.requires)

pub is_interpreted-requires : goal.is_interpreted-requires
is_interpreted-requires c = right_place _ _ _ _ c.requires

pub set_mark-requires : goal.set_mark-requires
set_mark-requires c =
    bound (goal.at.set_mark-requires c).Else-count_of-place

pub returns-then-is_interpreted : goal.returns-then-is_interpreted
returns-then-is_interpreted c =
    let a = c.args in
    mark_is a.table.now a.right.now a.j a.places.now c.requires (low (goal.at.returns-then-is_interpreted c).Else-count_of-place) (eqb-true _ 1 (sym c.is_interpreted.ensures ∙ c.if-is_interpreted.true)) _
    (rw (sym c.from-place.ensures) c.set_mark.ensures)

pub returns-else-is_interpreted : goal.returns-else-is_interpreted
returns-else-is_interpreted c =
    let a = c.args in
    leave_is a.table.now a.right.now a.j a.places.now c.requires (low (goal.at.returns-else-is_interpreted c).Else-count_of-place) (eqb-false _ 1 (sym c.is_interpreted.ensures ∙ c.if-is_interpreted.false))

pub references_at-requires : goal.references_at-requires
references_at-requires c = right_place _ _ _ _ c.requires
