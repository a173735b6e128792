use mathlib.Core.Path.{◌≡◌, sym, ◌∙◌}
use mathlib.Core.Bool.{Bool, ◌&&◌, cond}
use Prim.Native.Nat.{ℕ, suc, ◌≤◌, ◌<◌, ◌-◌, ◌+◌, ◌^◌}
use native.Mathlib.Omega.{arith}
use lib.Dec.{ltb}
use borrow.Author.Rules.{rules}
use Rattle.base.specs.Bytes.{Bytes}
use Rattle.base.specs.Count.{count_below}
use Rattle.base.specs.Mask.{in_mask}
use Rattle.base.proofs.Count.{count_le}
use Rattle.base.proofs.TopPlace.{count_highest, count_no_place}
use Rattle.table.specs.View.{max_places}
use Rattle.table.specs.Layout.{view_of}
use Rattle.table.specs.Rules.{parents}
use Rattle.table.specs.Steps.{row_of, parent_at}
use Rattle.table.proofs.rules.parents_among.Goals as goal

-- the place j is taken out of the mask m
turn : (g : ℕ → Bool) (k m j left count next all : ℕ) → 2 ^ j ≤ m → m < 2 ^ suc j → left ≡ m - 2 ^ j → next ≡ cond (ltb j k && g j) 1 0 + count
    → count + count_below (λ p. in_mask m p && g p) k ≡ all → next + count_below (λ p. in_mask left p && g p) k ≡ all
turn g k m j left count next all from to q e h = rw q (omega (arith, count_highest m j from to g k))

-- no more are counted than there are places
few : (t : Bytes) (k site sequence references left count : ℕ) → k ≤ max_places → count + parents (view_of t) k (row_of site sequence left) ≡ parents (view_of t) k (row_of site sequence references) → count ≤ 64
unfolding parents
few t k site sequence references left count places e =
    let most : parents (view_of t) k (row_of site sequence references) ≤ k = count_le (λ p. in_mask references p && parent_at t site sequence p) k in
    omega (arith, places, e)

pub overflow_add-count : goal.overflow_add-count
overflow_add-count c =
    let h = few c.args.table.now _ _ _ _ _ _ c.requires c.loop-j.invariant in
    search rules

pub loop-j-preserved-then-parent_below : goal.loop-j-preserved-then-parent_below
unfolding parents
loop-j-preserved-then-parent_below c =
    let s = c.in-Some.ensures.steps in
    turn (parent_at c.args.table.now c.args.site c.args.sequence) c.args.k _ _ _ _ _ _ s.1 s.2 s.3 (rw (sym c.parent_below.ensures ∙ c.if-parent_below.true) (omega arith)) c.loop-j.invariant

pub loop-j-preserved : goal.loop-j-preserved
unfolding parents
loop-j-preserved c =
    let s = c.in-Some.ensures.steps in
    turn (parent_at c.args.table.now c.args.site c.args.sequence) c.args.k _ _ _ _ _ _ s.1 s.2 s.3 (rw (sym c.parent_below.ensures ∙ c.if-parent_below.false) (omega arith)) c.loop-j.invariant

pub returns : goal.returns
unfolding parents
returns c =
    let a = c.args in
    let none : parents (view_of a.table.now) a.k (row_of a.site a.sequence c.loop-j.j-iterator.0) ≡ 0 =
    rw c.in-None.ensures.steps (count_no_place (parent_at a.table.now a.site a.sequence) a.k) in
    omega (arith, none, c.loop-j.invariant)
