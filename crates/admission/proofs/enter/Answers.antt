-- `enter` meets its contract: it refuses and leaves the table, or puts the row. Assumes nothing.
use mathlib.Core.Path.{◌≡◌, refl, sym, ap, ◌∙◌}
use Prim.Native.Nat.{ℕ, ◌<◌}
use native.Mathlib.Omega.{arith}
use borrow.Author.Tests.{ne_eqb, ltb-true}
use Rattle.std.specs.Prelude.{Err}
use Rattle.base.specs.Mask.{in_mask}
use Rattle.base.specs.Bytes.{Bytes}
use Rattle.sha256.specs.Sha256.{sha256}
use Rattle.answer.proofs.Checks.{number_of}
use Rattle.answer.specs.Refusals.{refusal_number, answer_of}
use Rattle.answer.specs.declared.Refusal.{Refusal}
use Rattle.answer.proofs.Refusals.{numbered}
use Rattle.answer.specs.Promises.{elsewhere, different}
use Rattle.answer.proofs.Promises.{all_passed}
use Rattle.block.specs.Layout.{site_of, sequence_of, reference_list, request_list, requests_in, counted_request}
use Rattle.block.specs.Promises.{Shaped}
use Rattle.block.specs.declared.Fields.{Fields}
use Rattle.table.specs.View.{max_places, SameRow}
use Rattle.table.specs.Layout.{count_of, view_of, with_row}
use Rattle.table.specs.Steps.{new_row}
use Rattle.table.proofs.AddedRow.{put_same}
use Rattle.admission.specs.Admission.{row_for, held_checks}
use Rattle.admission.specs.declared.held.Found.{Found}
use Rattle.admission.specs.Steps.{places_listed, held_answer, entered}
use Rattle.admission.proofs.HeldReferences.{listed}
use Rattle.admission.proofs.enter.Goals as goal
use Rattle.admission.proofs.enter.Goals.{After-digest-digest}

-- where nothing is refused there is room
room : (t b : Bytes) → (held_answer t b).refusal ≡ 0 → count_of t < max_places
unfolding held_answer different elsewhere
room t b e =
    ltb-true (count_of t) max_places (all_passed (held_checks sha256 (view_of t) b) (count_of t) refl e).1

module _ (t b : Bytes) (shape : Shaped b) (list : Bytes) (el : list ≡ reference_list b) (found : Found)
    (er : found.places ≡ places_listed t (count_of t) list) where
  places : found.places ≡ places_listed t (count_of t) (reference_list b)
  places = er ∙ ap (places_listed t (count_of t)) el

  module _ (d requests : Bytes) (site sequence : ℕ) (ed : d ≡ sha256 b) (eq : requests ≡ request_list b) (es : site ≡ site_of b) (en : sequence ≡ sequence_of b) where
    same_row : SameRow (new_row d site sequence found.places requests) (row_for sha256 (view_of t) b)
    same_row =
        record {
          digest = ed;
          site = es;
          sequence = en;
          refers_to = λ j h. ap (λ (m : ℕ). in_mask m j) places ∙ listed b shape t j;
          request = λ slot h. ap (λ (l : Bytes). counted_request (requests_in l) slot) eq;
          mark = refl;
        }

    table_entered : (t' : Bytes) → 0 ≡ (held_answer t b).refusal → t' ≡ with_row t (new_row d site sequence found.places requests) → t' ≡ entered t b
    unfolding entered
    table_entered t' z w = rw (← z) (w ∙ put_same t _ (row_for sha256 (view_of t) b) same_row)

-- a refusal leaves the table
table_left : (t b : Bytes) (refusal : Refusal) → answer_of (Err refusal) ≡ held_answer t b → t ≡ entered t b
unfolding entered
table_left t b refusal e = rw (← e, ne_eqb (refusal_number refusal) 0 (λ z. omega (arith, numbered refusal)))

hashed : (c : After-digest-digest) → c.digest-digest.result ≡ sha256 c.args.block.now
hashed c = c.digest-digest.ensures ∙ ap sha256 c.bytes.ensures.bytes

pub returns-in_err-place-clause-table_after : goal.returns-in_err-place-clause-table_after
returns-in_err-place-clause-table_after c = table_left _ _ _ (rw c.new-index.ensures at c.in_err-place.ensures)

pub put_row-requires : goal.put_row-requires
put_row-requires c = room _ _ (number_of (sym (rw c.new-index.ensures at c.in_ok-place.ensures)))

pub returns-clause-table_after : goal.returns-clause-table_after
returns-clause-table_after c =
    table_entered _ _ c.references.ensures.shape _ c.references.ensures.list c.look_up-found.result (rw c.new-index.ensures at c.look_up-found.ensures.places_value) _ _ _ _ (hashed (goal.at.returns-clause-table_after c).After-digest-digest) c.requests.ensures.list
    (ap (λ (x : Fields). x.site) c.requires.1) (ap (λ (x : Fields). x.sequence) c.requires.1) _ (number_of (rw c.new-index.ensures at c.in_ok-place.ensures)) c.put_row.ensures
