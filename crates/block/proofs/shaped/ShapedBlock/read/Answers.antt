-- `read` meets its contract: one check of entries after the other. Assumes nothing.
use mathlib.Core.Path.{◌≡◌, refl, ap, ◌∙◌}
use mathlib.Core.Bool.{Bool}
use Prim.Native.Nat.{ℕ, ◌/◌}
use lib.ListN.{length}
use Rattle.std.specs.Prelude.{Option, Some, None, Ok, Err}
use Rattle.base.specs.Search.{found_below}
use Rattle.base.specs.Bytes.{Bytes}
use Rattle.base.proofs.Search.{some_found, none_found, none_first}
use Rattle.answer.specs.declared.Refusal.{Refusal}
use Rattle.answer.specs.declared.Refusal.TheVariants.{BadRequest, RepeatedSlot, RepeatedReference}
use Rattle.block.specs.Limits.{reference_size, request_size}
use Rattle.block.specs.Layout.{site_of, sequence_of, reference_count, request_count, request_list}
use Rattle.block.specs.Reading.{Reading, bad_request_at, slot_repeated_at, reference_repeated_at, fields_of, each_entry, reading}
use Rattle.block.specs.Promises.{Shaped}
use Rattle.block.specs.Steps.{from_references, from_slots}
use Rattle.block.specs.declared.Fields.{Fields}
use Rattle.block.proofs.Shape.{well_shaped_lem, references_counted, requests_counted}
use Rattle.block.proofs.shaped.ShapedBlock.read.Goals as goal
use Rattle.block.proofs.shaped.ShapedBlock.read.Goals.{In_default, In_default-first_of_repeated_slot}

-- a check of the entries of a list that is the block's, by the search of the first that fails; the search goes by the list's own length
module _ (fails : Bytes → ℕ → Bool) (list own : Bytes) (size count : ℕ) (l : list ≡ own) (n : length own / size ≡ count) (refusal : ℕ → Refusal) (rest : Reading) where
  searched : (o : Option ℕ) → o ≡ found_below (fails list) (length list / size) → o ≡ found_below (fails own) count
  searched o e = e ∙ rw (l, n) refl

  failed : (i : ℕ) → Some i ≡ found_below (fails list) (length list / size) → Err (refusal i) ≡ each_entry (fails own) count refusal rest
  failed i e = let w = some_found (fails own) count i (searched (Some i) e) in rw (w.0, w.1)

  passed : None ≡ found_below (fails list) (length list / size) → rest ≡ each_entry (fails own) count refusal rest
  passed e = rw (none_found (fails own) count (searched None e))

module _ (b : Bytes) (s : Shaped b) where
  from_requests : each_entry (bad_request_at (request_list b)) (request_count b) BadRequest (from_slots b) ≡ reading b
  unfolding reading
  from_requests = rw (well_shaped_lem b s)

  fields : (f : Fields) → f.site ≡ site_of b → f.sequence ≡ sequence_of b → f.references ≡ reference_count b → f.requests ≡ request_count b → f ≡ fields_of b
  fields f es en ep er = rw (← es, ← en, ← ep, ← er)

-- what is left of reading after check 6, and after check 18
good : (c : In_default) → let b = c.args.self.now in from_slots b ≡ reading b
good c =
    let s = c.requests-list.ensures.shape in
    passed bad_request_at _ _ request_size _ c.requests-list.ensures.list (requests_counted _ s) BadRequest _ c.in_default.ensures ∙ from_requests _ s

apart : (c : In_default-first_of_repeated_slot) → let b = c.args.self.now in from_references b ≡ reading b
apart c =
    let s = c.requests-list.ensures.shape in
    passed slot_repeated_at _ _ request_size _ c.requests-list.ensures.list (requests_counted _ s) RepeatedSlot _ c.in_default-first_of_repeated_slot.ensures
    ∙ good (goal.at.In_default-first_of_repeated_slot c).In_default

pub returns-in-Some : goal.returns-in-Some
returns-in-Some c =
    let s = c.requests-list.ensures.shape in
    failed bad_request_at _ _ request_size _ c.requests-list.ensures.list (requests_counted _ s) BadRequest _ _ c.in-Some.ensures ∙ from_requests _ s

pub first_of_repeated_slot-requires : goal.first_of_repeated_slot-requires
first_of_repeated_slot-requires c = none_first _ _ c.in_default.ensures

pub returns-in-Some-first_of_repeated_slot : goal.returns-in-Some-first_of_repeated_slot
returns-in-Some-first_of_repeated_slot c =
    let s = c.requests-list.ensures.shape in
    failed slot_repeated_at _ _ request_size _ c.requests-list.ensures.list (requests_counted _ s) RepeatedSlot _ _ c.in-Some-first_of_repeated_slot.ensures
    ∙ good (goal.at.returns-in-Some-first_of_repeated_slot c).In_default

pub returns-in-Some-first_repeated : goal.returns-in-Some-first_repeated
returns-in-Some-first_repeated c =
    let s = c.requests-list.ensures.shape in
    failed reference_repeated_at _ _ reference_size _ c.references.ensures.list (references_counted _ s) RepeatedReference _ _ c.in-Some-first_repeated.ensures
    ∙ apart (goal.at.returns-in-Some-first_repeated c).In_default-first_of_repeated_slot

pub returns : goal.returns
returns c =
    let s = c.requests-list.ensures.shape in
    ap Ok (fields _ s _ c.site.ensures c.sequence.ensures c.reference_count.ensures c.request_count.ensures)
    ∙ passed reference_repeated_at _ _ reference_size _ c.references.ensures.list (references_counted _ s) RepeatedReference _ c.in_default-first_repeated.ensures
    ∙ apart (goal.at.returns c).In_default-first_of_repeated_slot
