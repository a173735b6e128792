use mathlib.Core.Path.{◌≡◌, sym, ap, ◌∙◌}
use mathlib.Core.Bool.{false, not}
use Rattle.base.specs.Mask.{in_mask}
use Rattle.join.proofs.Turns.{some_fails, none_fails, fails_here, fails_later}
use Rattle.join.proofs.clash.refers_within.Invariants.{stands}
use Rattle.join.proofs.clash.refers_within.Goals as goal
use Rattle.join.proofs.clash.refers_within.Goals.{After-is_in}

its : (c : After-is_in) → stands c.args.places.now c.args.mask c.in-Some.k ≡ c.is_in.result
its c = sym (c.is_in.ensures ∙ ap (in_mask c.args.mask) c.from.ensures)

pub returns-then-not-is_in : goal.returns-then-not-is_in
returns-then-not-is_in c =
    let s = c.in-Some.ensures.steps in
    ap not (sym (sym c.loop-k.invariant
    ∙ fails_here _ _ s.0 s.1 s.2 (stands c.args.places.now c.args.mask) (its (goal.at.returns-then-not-is_in c).After-is_in ∙ c.if-not-is_in.true)))

pub loop-k-preserved : goal.loop-k-preserved
loop-k-preserved c =
    let s = c.in-Some.ensures.steps in
    rw s.3 (fails_later _ _ s.0 s.1 s.2 (stands c.args.places.now c.args.mask) (its (goal.at.loop-k-preserved c).After-is_in ∙ c.if-not-is_in.false) ∙ c.loop-k.invariant)

pub returns : goal.returns
returns c =
    let f = stands c.args.places.now c.args.mask in
    let none : some_fails c.loop-k.k-iterator.0 f ≡ false = rw c.in-None.ensures.steps (none_fails f) in
    ap not (sym (sym c.loop-k.invariant ∙ none))
