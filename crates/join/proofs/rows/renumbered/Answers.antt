use mathlib.Core.Path.{subst}
use Prim.Native.Nat.{ℕ, ◌<◌}
use native.Mathlib.Omega.{arith}
use borrow.Author.Rules.{rules}
use Rattle.base.proofs.TopPlace.{one_place, highest_in}
use Rattle.table.specs.View.{max_places}
use Rattle.join.proofs.Turns.{Marking, marking_ends, marking_next}
use Rattle.join.proofs.rows.renumbered.Goals as goal
use Rattle.join.proofs.rows.renumbered.Goals.{After-from}

-- a place in the result
stands : (c : After-from) → c.from.result < max_places
stands c =
    let s = c.in-Some.ensures.steps in
    omega (arith, c.from.ensures, c.requires.below c.in-Some.k s.0 (c.loop-k.invariant.among c.in-Some.k (highest_in _ _ s.1 s.2)))

pub overflow_shl-mask : goal.overflow_shl-mask
overflow_shl-mask c = let h = stands (goal.at.overflow_shl-mask c).After-from in search rules

pub loop-k-preserved : goal.loop-k-preserved
loop-k-preserved c =
    let s = c.in-Some.ensures.steps in
    let l = stands (goal.at.loop-k-preserved c).After-from in
    rw (s.3, one_place c.from.result l) (marking_next _ _ s.0 s.1 s.2 _ _ c.loop-k.mask c.from.result c.loop-k.invariant c.from.ensures l)

pub returns : goal.returns
returns c =
    let a = c.args in
    marking_ends a.references a.places.now c.loop-k.mask (subst (λ (m : ℕ). Marking a.references a.places.now c.loop-k.mask m) c.in-None.ensures.steps c.loop-k.invariant)
