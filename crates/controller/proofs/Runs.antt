-- Every list of calls, seen by one campaign: call by call. Assumes nothing.
use mathlib.Core.Path.{◌≡◌, refl, sym, ap, ap₂, ◌∙◌}
use mathlib.Core.Bool.{true, false}
use mathlib.Core.Logic.{◌≢◌}
use mathlib.Core.List.{List, [], ◌∷◌, ◌++◌}
use Prim.Native.Nat.{ℕ, ◌+◌, ◌≤◌}
use native.Mathlib.Omega.{arith}
use lib.Dec.{eqb}
use lib.ListN.{length}
use borrow.Author.Tests.{eqb-true, eqb-false}
use Rattle.base.specs.Bytes.{Bytes, same_bytes}
use Rattle.base.specs.List.{count_in}
use Rattle.base.proofs.Tests.{by_test}
use Rattle.base.proofs.Selection.{count_in_append}
use Rattle.block.specs.Limits.{reference_size}
use Rattle.shelf.specs.Layout.{Waiting, waiting_in}
use Rattle.shelf.specs.Rules.{max_campaign}
use Rattle.shelf.specs.Form.{shelf_in_form}
use Rattle.campaigns.specs.Passes.{outcomes_of}
use Rattle.campaigns.specs.Promises.{only, times_waiting, is_end, times_ended}
use Rattle.campaigns.proofs.Tries.{outcomes_append}
use Rattle.run.specs.Run.{Site, site_after}
use Rattle.run.proofs.Runs.{after_append}
use Rattle.controller.specs.Run.{CampaignCall, arrives, made, ControllerCall, Reply, Controller, Alone, reply_to, step, after, each_own, replies, outcomes, tries_by, tries, is_taken, taken_by, shelved_blocks, plain_by, plain_run, own_run, alone_step, alone_after, alone_replies}
use Rattle.controller.proofs.Steps.{step_formed, other_site_lem, other_waiting, other_times, own_accounted, own_plain, own_reply, own_view}

module _ (digest : Bytes → Bytes) (sized : (b : Bytes) → length (digest b) ≡ reference_size) where
  -- what a call leaves
  abbrev next : Controller → ControllerCall → Controller
  next x k = step digest x k.campaign k.call

  pub run_formed : (ks : List ControllerCall) (x : Controller) → shelf_in_form x.shelf ≡ true → shelf_in_form (after digest x ks).shelf ≡ true
  unfolding after
  run_formed [] x f = f
  run_formed (k ∷ ks) x f = run_formed ks (next x k) (step_formed digest sized x f k.campaign k.call)

  module _ (c : ℕ) (low : c ≤ max_campaign) where
    abbrev view : Controller → Alone
    view z = record { site = z.site c; waiting = only c (waiting_in z.shelf) }

    -- what a fact says of a list it says of the first call, of the campaign's own or another's, and of the rest
    module _ (P : Controller → List ControllerCall → Type 0)
        (none : (x : Controller) → P x [])
        (own : (x : Controller) (k : ControllerCall) (ks : List ControllerCall) → shelf_in_form x.shelf ≡ true → eqb k.campaign c ≡ true → k.campaign ≡ c → P (next x k) ks → P x (k ∷ ks))
        (other : (x : Controller) (k : ControllerCall) (ks : List ControllerCall) → shelf_in_form x.shelf ≡ true → eqb k.campaign c ≡ false → k.campaign ≢ c → P (next x k) ks → P x (k ∷ ks)) where
      by_calls : (ks : List ControllerCall) (x : Controller) → shelf_in_form x.shelf ≡ true → P x ks
      by_calls [] x f = none x
      by_calls (k ∷ ks) x f =
          let more = by_calls ks (next x k) (step_formed digest sized x f k.campaign k.call) in
          by_test (eqb k.campaign c)
          (λ y. own x k ks f y (eqb-true k.campaign c y) more)
          (λ n. other x k ks f n (eqb-false k.campaign c n) more)

    pub run_plain : (ks : List ControllerCall) (x : Controller) → shelf_in_form x.shelf ≡ true → (after digest x ks).site c ≡ site_after digest (x.site c) (plain_run digest c x ks)
    unfolding after each_own site_after
    run_plain =
        by_calls (λ x ks. (after digest x ks).site c ≡ site_after digest (x.site c) (plain_run digest c x ks))
        (λ x. refl)
        (λ x k ks f y q more.
        let calls = plain_by digest c x k.call in
        let rest = plain_run digest c (next x k) ks in
        let here : (next x k).site c ≡ site_after digest (x.site c) calls =
        ap (λ (d : ℕ). (step digest x d k.call).site c) q ∙ own_plain digest sized x f c low k.call in
        more ∙ ap (λ (s : Site). site_after digest s rest) here ∙ sym (after_append digest (x.site c) calls rest) ∙ rw y)
        (λ x k ks f n o more.
        more ∙ ap (λ (s : Site). site_after digest s (plain_run digest c (next x k) ks)) (other_site_lem digest sized x f c k.campaign o k.call) ∙ rw n)

    -- ---- the campaign alone

    module _ (x : Controller) (f : shelf_in_form x.shelf ≡ true) (k : ControllerCall) where
      -- a call of another campaign is not seen
      unseen : k.campaign ≢ c → view x ≡ view (next x k)
      unseen o =
          ap₂ (λ (s : Site) (l : List Waiting). record { site = s; waiting = l }) (sym (other_site_lem digest sized x f c k.campaign o k.call))
          (sym (other_waiting digest sized x f c k.campaign o k.call))

      -- one of its own is all that is seen
      seen_own : k.campaign ≡ c → alone_step digest c (view x) (is_taken digest c x k.call) k.call ≡ view (next x k)
      seen_own q = own_view digest sized x f c low k.call ∙ ap (λ (d : ℕ). view (step digest x d k.call)) (sym q)

    pub run_alone : (ks : List ControllerCall) (x : Controller) → shelf_in_form x.shelf ≡ true → alone_after digest c (view x) (own_run digest c x ks) ≡ view (after digest x ks)
    unfolding after each_own alone_after
    run_alone =
        by_calls (λ x ks. alone_after digest c (view x) (own_run digest c x ks) ≡ view (after digest x ks))
        (λ x. refl)
        (λ x k ks f y q more. rw y (ap (λ (a : Alone). alone_after digest c a (own_run digest c (next x k) ks)) (seen_own x f k q) ∙ more))
        (λ x k ks f n o more. rw n (ap (λ (a : Alone). alone_after digest c a (own_run digest c (next x k) ks)) (unseen x f k o) ∙ more))

    pub run_replies : (ks : List ControllerCall) (x : Controller) → shelf_in_form x.shelf ≡ true → replies digest c x ks ≡ alone_replies digest c (view x) (own_run digest c x ks)
    unfolding each_own alone_replies
    run_replies =
        by_calls (λ x ks. replies digest c x ks ≡ alone_replies digest c (view x) (own_run digest c x ks))
        (λ x. refl)
        (λ x k ks f y q more.
        rw y
        (ap₂ (λ (r : Reply) (l : List Reply). r ∷ l) (sym (own_reply digest sized x f c low k.call))
        (more ∙ ap (λ (a : Alone). alone_replies digest c a (own_run digest c (next x k) ks)) (sym (seen_own x f k q)))))
        (λ x k ks f n o more. rw n (more ∙ ap (λ (a : Alone). alone_replies digest c a (own_run digest c (next x k) ks)) (sym (unseen x f k o))))

    -- ---- the outcomes that are listed are those of the tries

    own_listed : (x : Controller) (call : CampaignCall) → (reply_to digest x c call).outcomes ≡ outcomes_of (tries_by digest c x call)
    unfolding reply_to tries_by outcomes_of
    own_listed x (arrives b verdict room) = refl
    own_listed x (made call) = refl

    pub run_listed : (ks : List ControllerCall) (x : Controller) → shelf_in_form x.shelf ≡ true → outcomes digest c x ks ≡ outcomes_of (tries digest c x ks)
    unfolding each_own outcomes_of
    run_listed =
        by_calls (λ x ks. outcomes digest c x ks ≡ outcomes_of (tries digest c x ks))
        (λ x. refl)
        (λ x k ks f y q more.
        rw y (ap₂ ◌++◌ (own_listed x k.call) more ∙ sym (outcomes_append (tries_by digest c x k.call) (tries digest c (next x k) ks))))
        (λ x k ks f n o more. rw n more)

    -- ---- every block that waited, and each that was taken, waits or has ended

    pub run_accounted : (b : Bytes) (ks : List ControllerCall) (x : Controller) → shelf_in_form x.shelf ≡ true
        → times_waiting c b (waiting_in x.shelf) + count_in (λ y. same_bytes y b) (shelved_blocks digest c x ks)
        ≡ times_waiting c b (waiting_in (after digest x ks).shelf) + times_ended b (tries digest c x ks)
    unfolding after each_own count_in
    run_accounted b =
        by_calls
        (λ x ks. times_waiting c b (waiting_in x.shelf) + count_in (λ y. same_bytes y b) (shelved_blocks digest c x ks)
        ≡ times_waiting c b (waiting_in (after digest x ks).shelf) + times_ended b (tries digest c x ks))
        (λ x. refl)
        (λ x k ks f y q more.
        let here : times_waiting c b (waiting_in (next x k).shelf) + times_ended b (tries_by digest c x k.call)
        ≡ times_waiting c b (waiting_in x.shelf) + count_in (λ y. same_bytes y b) (taken_by digest c x k.call) =
        ap (λ (d : ℕ). times_waiting c b (waiting_in (step digest x d k.call).shelf) + times_ended b (tries_by digest c x k.call)) q
        ∙ own_accounted digest sized x f c low k.call b in
        rw y
        (omega (
          arith,
          here,
          more,
          count_in_append (λ y. same_bytes y b) (taken_by digest c x k.call) (shelved_blocks digest c (next x k) ks),
          count_in_append (is_end b) (tries_by digest c x k.call) (tries digest c (next x k) ks),
        )))
        (λ x k ks f n o more. rw n (omega (arith, more, other_times digest sized x f c k.campaign o k.call b)))
