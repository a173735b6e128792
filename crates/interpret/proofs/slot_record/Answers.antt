-- `slot_record` meets its contract. Assumes nothing.
use mathlib.Core.Path.{◌≡◌}
use Prim.Native.Nat.{◌<◌}
use lib.ListN.{length}
use Rattle.table.specs.View.{max_places}
use Rattle.table.specs.Layout.{row_at, view_of}
use Rattle.interpret.specs.Slot.{interpret_slot}
use Rattle.interpret.specs.Interpretation.{directs_below, record_for}
use Rattle.interpret.specs.Steps.{directs_of}
use Rattle.interpret.proofs.Turns.{parent_listed, parent_state_lem}
use Rattle.interpret.proofs.Places.{listed, directs_listed}
use Rattle.interpret.proofs.slot_record.Goals as goal

pub returns : goal.returns
unfolding record_for interpret_slot
returns c =
    let a = c.args in
    let v = view_of a.table.now in
    let r = row_at a.table.now a.place in
    let e = parent_state_lem v a.records.now a.slot r a.places.now (length a.places.now) in
    let d : directs_of a.table.now a.places.now a.records.now a.slot ≡ directs_below v a.records.now a.slot r a.place =
    rw c.requires.0.listed (directs_listed v a.records.now a.slot r a.place) in
    let made = rw (c.owner_of-owner.ensures, c.site_at-site.ensures, c.request_at-number.ensures, c.start_of-start.ensures, c.requires.1, ← e) at c.take_request-asked.ensures in
    rw d at (rw made at c.hear_all.ensures)

pub hear_all-requires : goal.hear_all-requires
hear_all-requires c = listed _ _ _ _ c.requires.0

pub start_of-start-requires : goal.start_of-start-requires
start_of-start-requires c =
    let a = c.args in
    let p = c.requires.0 in
    (rw c.requires.1 (parent_listed (λ i. i < max_places) _ _ a.places.now (length a.places.now) (listed _ _ _ _ p).held), p.below)
