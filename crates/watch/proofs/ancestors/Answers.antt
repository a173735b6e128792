-- `ancestors` meets its contract: one way out for each check, and one where both hold. Assumes nothing.
use mathlib.Core.Path.{◌≡◌, ◌∙◌}
use mathlib.Core.Bool.{true}
use Prim.Native.Nat.{◌^◌, ◌<◌}
use borrow.Author.Tests.{lt-ltb, le-ltb}
use Rattle.answer.specs.Checks.{answer_to}
use Rattle.table.specs.View.{max_places}
use Rattle.table.specs.Layout.{count_of, view_of}
use Rattle.table.specs.Form.{in_form}
use Rattle.watch.specs.Ancestors.{ancestor_mask, ancestors}
use Rattle.watch.proofs.InForm.{held_place, places_fit, refers_lower}
use Rattle.watch.proofs.AncestorPass.{gathered_ancestors}
use Rattle.watch.proofs.ancestors.Goals as goal
use Rattle.watch.proofs.ancestors.Goals.{After-ancestor_mask-places, Else-count_of-place, In-Some}

-- what the tests show
formed : (c : In-Some) → in_form c.in-Some.table.now ≡ true
formed c = rw c.in-Some.ensures.0 c.in-Some.ensures.1

held : (c : Else-count_of-place) → c.args.place < count_of c.in-Some.table.now
held c = rw c.count_of.ensures at c.if-count_of-place.false

-- the mask that is found
found : (c : After-ancestor_mask-places) → c.ancestor_mask-places.result ≡ ancestor_mask (view_of c.in-Some.table.now) c.args.place
found c =
    let f = formed (goal.at.After-ancestor_mask-places c).In-Some in
    let w : c.ancestor_mask-places.result < 2 ^ max_places = c.ancestor_mask-places.type_inv in
    c.ancestor_mask-places.ensures ∙ gathered_ancestors _ (places_fit _ f) (refers_lower _ f) _ (held (goal.at.After-ancestor_mask-places c).Else-count_of-place) (rw c.ancestor_mask-places.ensures at w)

pub returns-in_default : goal.returns-in_default
unfolding ancestors answer_to
returns-in_default c = rw c.in_default.ensures

pub returns-then-count_of-place : goal.returns-then-count_of-place
unfolding ancestors answer_to
returns-then-count_of-place c = rw (← c.in-Some.ensures.0, formed (goal.at.returns-then-count_of-place c).In-Some, ← c.count_of.ensures, le-ltb _ _ c.if-count_of-place.true)

pub returns : goal.returns
unfolding ancestors answer_to
returns c = rw (← c.in-Some.ensures.0, formed (goal.at.returns c).In-Some, lt-ltb _ _ (held (goal.at.returns c).Else-count_of-place), ← found (goal.at.returns c).After-ancestor_mask-places)

pub ancestor_mask-places-requires : goal.ancestor_mask-places-requires
ancestor_mask-places-requires c = held_place _ (formed (goal.at.ancestor_mask-places-requires c).In-Some) _ (held (goal.at.ancestor_mask-places-requires c).Else-count_of-place)
