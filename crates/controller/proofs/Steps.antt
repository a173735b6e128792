-- One call of a controller whose shelf is in form: what it does to its own campaign, seen alone and as plain calls, and that it leaves the others.
-- Assumes nothing.
use mathlib.Core.Path.{◌≡◌, refl, sym, ap, ap₂, ◌∙◌}
use mathlib.Core.Bool.{Bool, true, cond}
use mathlib.Core.Logic.{◌≢◌}
use mathlib.Core.List.{List, [], ◌∷◌, map}
use Prim.Native.Nat.{ℕ, ◌+◌, ◌≤◌}
use native.Mathlib.Omega.{arith}
use lib.Dec.{eqb, leb}
use lib.ListN.{length}
use borrow.Author.Tests.{eqb-true, eqb-false, eq-eqb, ne_eqb, leb-true, leb-false, le-leb}
use Rattle.base.specs.Bytes.{Bytes, same_bytes}
use Rattle.base.specs.List.{count_in}
use Rattle.base.proofs.Tests.{by_test}
use Rattle.base.proofs.Selection.{count_in_those}
use Rattle.answer.proofs.Checks.{number_of}
use Rattle.answer.specs.declared.Answer.{Answer}
use Rattle.answer.specs.Checks.{answer_to, refused}
use Rattle.block.specs.Limits.{reference_size}
use Rattle.shelf.specs.Layout.{Waiting, waiting_in}
use Rattle.shelf.specs.Rules.{max_campaign, is_for, has_place}
use Rattle.shelf.specs.Form.{shelf_in_form}
use Rattle.admission.specs.Admission.{admission, admitted}
use Rattle.admission.proofs.Effect.{refused_table}
use Rattle.campaigns.specs.Passes.{Try, outcomes_of}
use Rattle.campaigns.specs.Arriving.{Arrived, Called, outcomes_size, unchanged, arrived}
use Rattle.campaigns.specs.Promises.{only, times_waiting, times_ended, TriedFrom, Tested, CallKeeps}
use Rattle.campaigns.proofs.Ways.{called_is, at17}
use Rattle.campaigns.proofs.Promises.{call_keeps, called_waiting}
use Rattle.run.specs.Ledger.{admit}
use Rattle.run.specs.Run.{Site, site_step, site_after}
use Rattle.controller.specs.Run.{CampaignCall, arrives, made, is_taken, Controller, Alone, arrival_at, reply_to, step, tries_by, taken_by, plain_by, alone_arrived, alone_reply, alone_step}
use Rattle.controller.proofs.OwnArrival.{seen_by, arrived_only}

-- tries as plain calls
tries_plain : (digest : Bytes → Bytes) (records : List ℕ) (ys : List Try) (t t' : Bytes) → TriedFrom digest t ys t'
    → site_after digest (record { table = t; records = records }) (map (λ (y : Try). admit y.block 1) ys) ≡ record { table = t'; records = records }
unfolding TriedFrom site_after site_step
tries_plain digest records [] t t' e = ap (λ (x : Bytes). record { table = x; records = records }) e
tries_plain digest records (y ∷ ys) t t' e = tries_plain digest records ys (admitted digest t y.block 1) t' e.1

module _ (digest : Bytes → Bytes) (sized : (b : Bytes) → length (digest b) ≡ reference_size) (x : Controller) (formed : shelf_in_form x.shelf ≡ true) where
  abbrev ws : List Waiting
  ws = waiting_in x.shelf

  keeps : (c : ℕ) (b : Bytes) (verdict room : ℕ) → CallKeeps digest (x.site c).table x.shelf c b verdict room
  keeps c b verdict room = call_keeps digest sized (x.site c).table x.shelf c b verdict room

  pub step_formed : (k : ℕ) (call : CampaignCall) → shelf_in_form (step digest x k call).shelf ≡ true
  unfolding step
  step_formed k (arrives b verdict room) = (keeps k b verdict room).shelf_formed formed
  step_formed k (made call) = formed

  -- ---- a call of another campaign

  module _ (c k : ℕ) (other : k ≢ c) where
    pub other_site_lem : (call : CampaignCall) → (step digest x k call).site c ≡ x.site c
    unfolding step
    other_site_lem (arrives b verdict room) = rw (ne_eqb c k (λ q. other (sym q)))
    other_site_lem (made call) = rw (ne_eqb c k (λ q. other (sym q)))

    pub other_waiting : (call : CampaignCall) → only c (waiting_in (step digest x k call).shelf) ≡ only c ws
    unfolding step
    other_waiting (arrives b verdict room) = (keeps k b verdict room).other_campaigns c other
    other_waiting (made call) = refl

    -- so no block waits more often or less often for it
    pub other_times : (call : CampaignCall) (b : Bytes) → times_waiting c b (waiting_in (step digest x k call).shelf) ≡ times_waiting c b ws
    other_times call b =
        let same : Waiting → Bool = λ w. same_bytes w.block b in
        count_in_those (is_for c) same (waiting_in (step digest x k call).shelf) ∙ ap (count_in same) (other_waiting call)
        ∙ sym (count_in_those (is_for c) same ws)

  -- ---- a call of its own

  module _ (c : ℕ) (low : c ≤ max_campaign) where
    pub own_accounted : (call : CampaignCall) (b : Bytes)
        → times_waiting c b (waiting_in (step digest x c call).shelf) + times_ended b (tries_by digest c x call)
        ≡ times_waiting c b ws + count_in (λ y. same_bytes y b) (taken_by digest c x call)
    unfolding step tries_by taken_by is_taken count_in
    own_accounted (arrives y verdict room) b =
        (keeps c y verdict room).accounted b
        ∙ by_test (eqb (arrival_at digest x c y verdict room).answer.refusal 9) (λ e. rw e (omega arith)) (λ e. rw e (omega arith))
    own_accounted (made call) b = refl

    module _ (b : Bytes) (verdict room : ℕ) where
      abbrev t : Bytes
      t = (x.site c).table

      abbrev called : Called
      called = arrival_at digest x c b verdict room

      tested : outcomes_size ≤ room → Tested digest t x.shelf c b verdict room
      tested r = record { campaign = low; outcomes = r; formed = formed }

      -- over what waits, whether there is room for outcomes or not
      abbrev result : Arrived
      result = cond (leb outcomes_size room) (arrived digest (has_place c ws) t ws c b verdict) (unchanged (refused 17 outcomes_size) t ws)

      -- the parts that a campaign sees
      record Shown (z : Called) (r : Arrived) : Type 0 where
        answer : z.answer ≡ r.answer
        table : z.table ≡ r.table
        tries : z.tries ≡ r.tries
        waiting : waiting_in z.shelf ≡ r.waiting

      shown : Shown called result
      shown =
          by_test (leb outcomes_size room)
          (λ y.
          let k = tested (leb-true outcomes_size room y) in
          let e = called_is digest t x.shelf c b verdict room k in
          rw y (record { answer = ap (λ (z : Called). z.answer) e; table = ap (λ (z : Called). z.table) e; tries = ap (λ (z : Called). z.tries) e; waiting = called_waiting digest t x.shelf c b verdict room k }))
          (λ n.
          let e = at17 digest t x.shelf c b verdict room low (leb-false outcomes_size room n) in
          rw n (record { answer = ap (λ (z : Called). z.answer) e; table = ap (λ (z : Called). z.table) e; tries = ap (λ (z : Called). z.tries) e; waiting = ap (λ (z : Called). waiting_in z.shelf) e }))

      -- alone, told whether the shelf took the block
      alone_is : alone_arrived digest c (record { site = x.site c; waiting = only c ws }) (eqb called.answer.refusal 9) b verdict room ≡ seen_by c result
      alone_is =
          by_test (leb outcomes_size room)
          (λ y.
          let e = called_is digest t x.shelf c b verdict room (tested (leb-true outcomes_size room y)) in
          rw y
          (ap (λ (z : Called). arrived digest (eqb z.answer.refusal 9) t (only c ws) c b verdict) e ∙ arrived_only digest (has_place c ws) t ws c b verdict))
          (λ n. rw n)

      own_site : (step digest x c (arrives b verdict room)).site c ≡ record { table = result.table; records = (x.site c).records }
      unfolding step
      own_site = rw (eq-eqb c c refl) (ap (λ (z : Bytes). record { table = z; records = (x.site c).records }) shown.table)

      -- an arrival that is refused after the first checks was refused by admission
      admission_refused : Tested digest t x.shelf c b verdict room → called.answer.refusal ≢ 0 → (admission digest t b verdict).refusal ≢ 0
      admission_refused k m z = m (number_of ((keeps c b verdict room).causes.others k (λ q. omega arith)) ∙ z)

      -- its own admission, and the tries
      arrival_plain : (step digest x c (arrives b verdict room)).site c ≡ site_after digest (x.site c) (plain_by digest c x (arrives b verdict room))
      unfolding step plain_by site_after site_step answer_to
      arrival_plain =
          by_test (leb outcomes_size room)
          (λ y.
          let k = tested (leb-true outcomes_size room y) in
          rw (eq-eqb c c refl, le-leb c max_campaign low, y, formed)
          (by_test (eqb called.answer.refusal 0)
          (λ z. sym (tries_plain digest (x.site c).records called.tries (admitted digest t b verdict) called.table ((keeps c b verdict room).tried_from (eqb-true called.answer.refusal 0 z))))
          (λ z.
          let m = eqb-false called.answer.refusal 0 z in
          ap (λ (v : Bytes). record { table = v; records = (x.site c).records }) ((keeps c b verdict room).table_left m ∙ sym (refused_table digest t b verdict (admission_refused k m)))
          ∙ sym (ap (λ (ys : List Try). site_after digest (record { table = admitted digest t b verdict; records = (x.site c).records }) (map (λ (y : Try). admit y.block 1) ys)) ((keeps c b verdict room).none_tried m)))))
          (λ n.
          let e = at17 digest t x.shelf c b verdict room low (leb-false outcomes_size room n) in
          rw (eq-eqb c c refl, le-leb c max_campaign low, n) (ap (λ (z : Called). record { table = z.table; records = (x.site c).records }) e))

    abbrev view : Controller → Alone
    view z = record { site = z.site c; waiting = only c (waiting_in z.shelf) }

    abbrev told : CampaignCall → Bool
    told call = is_taken digest c x call

    pub own_plain : (call : CampaignCall) → (step digest x c call).site c ≡ site_after digest (x.site c) (plain_by digest c x call)
    unfolding step plain_by site_after site_step
    own_plain (arrives b verdict room) = arrival_plain b verdict room
    own_plain (made call) = rw (eq-eqb c c refl)

    pub own_reply : (call : CampaignCall) → alone_reply digest c (view x) (told call) call ≡ reply_to digest x c call
    unfolding reply_to alone_reply is_taken
    own_reply (arrives b verdict room) =
        ap (λ (r : Arrived). record { answer = r.answer; outcomes = outcomes_of r.tries }) (alone_is b verdict room)
        ∙ ap₂ (λ (a : Answer) (ys : List Try). record { answer = a; outcomes = outcomes_of ys }) (sym (shown b verdict room).answer) (sym (shown b verdict room).tries)
    own_reply (made call) = refl

    pub own_view : (call : CampaignCall) → alone_step digest c (view x) (told call) call ≡ view (step digest x c call)
    unfolding alone_step step is_taken
    own_view (arrives b verdict room) =
        ap (λ (r : Arrived). record { site = record { table = r.table; records = (x.site c).records }; waiting = r.waiting }) (alone_is b verdict room)
        ∙ ap₂ (λ (y : Site) (l : List Waiting). record { site = y; waiting = l }) (sym (own_site b verdict room)) (ap (only c) (sym (shown b verdict room).waiting))
    own_view (made call) = rw (eq-eqb c c refl)
