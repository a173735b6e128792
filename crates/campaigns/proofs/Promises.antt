-- Arrivals keep what is promised of a call, with any digest of 32 bytes, and so with SHA-256. Assumes nothing.
use mathlib.Core.Path.{◌≡◌, refl, sym, ap, subst, ◌∙◌}
use mathlib.Core.Bool.{true, false, cond, ◌&&◌}
use mathlib.Core.Logic.{◌≢◌}
use mathlib.Core.List.{List, [], ◌∷◌, append-nil}
use Prim.Native.Nat.{ℕ, ◌+◌, ◌≤◌, ◌<◌}
use native.Mathlib.Omega.{arith}
use lib.Dec.{eqb}
use lib.ListN.{length}
use borrow.Author.Tests.{eqb-true, eqb-false, eq-eqb, ne_eqb}
use Rattle.base.specs.Bytes.{Bytes, same_bytes}
use Rattle.base.specs.List.{count_in, passing_in}
use Rattle.base.proofs.Tests.{by_test, true_not_false}
use Rattle.base.proofs.Selection.{count_in_append, those_append}
use Rattle.sha256.specs.Sha256.{sha256}
use Rattle.sha256.proofs.Promises.{sha256_length}
use Rattle.block.specs.Limits.{reference_size}
use Rattle.shelf.specs.Layout.{Waiting, waiting_in, shelf_bytes}
use Rattle.shelf.specs.Rules.{reserved, max_share, is_for, holds, has_place, is_same, waits}
use Rattle.shelf.specs.Form.{shelf_in_form}
use Rattle.shelf.proofs.InForm.{RulesHold, of_ruled, shelf_form_lem, formed_bytes}
use Rattle.shelf.proofs.Rules.{fair_of, ruled_with, place_for_two}
use Rattle.shelf.proofs.ShelfLayout.{AllFit, fit_append, waiting_laid}
use Rattle.shelf.proofs.Turns.{shown_fit}
use Rattle.table.specs.Form.{in_form}
use Rattle.admission.specs.Admission.{admission, admitted}
use Rattle.admission.proofs.Effect.{kept}
use Rattle.campaigns.specs.Passes.{Try, PassResult, outcomes_of}
use Rattle.campaigns.specs.Arriving.{Called, waiting_last, listed, shelved, arrived}
use Rattle.campaigns.specs.Promises.{only, times_waiting, times_ended, TriedFrom, Tested, WouldGet9, CallKeeps, Promises}
use Rattle.campaigns.proofs.Tries.{tried_keeps}
use Rattle.campaigns.proofs.MissingReference.{nine_accepted, nine_short}
use Rattle.campaigns.proofs.PassInvariants.{settled_ruled, settled_fit, settled_places, settled_accounted, settled_others, settled_tried}
use Rattle.campaigns.proofs.LastPass.{Still, settled_still}
use Rattle.campaigns.proofs.Ways.{passed, all, at20, at19, at9, at0, at_other, by_way, admission_elsewhere}
use Rattle.campaigns.proofs.Causes.{causes}

-- how often bytes wait, with one more of a campaign at the end
times_behind : (c : ℕ) (x b : Bytes) (ws : List Waiting) → times_waiting c x (waiting_last ws c b) ≡ times_waiting c x ws + cond (same_bytes b x) 1 0
unfolding count_in
times_behind c x b ws =
    let e : eqb c c ≡ true = eq-eqb c c refl in
    count_in_append (is_same c x) ws (record { campaign = c; block = b } ∷ []) ∙ rw e (omega arith)

only_behind : (d c : ℕ) (b : Bytes) (ws : List Waiting) → c ≢ d → only d (waiting_last ws c b) ≡ only d ws
unfolding passing_in
only_behind d c b ws o =
    those_append (is_for d) ws (record { campaign = c; block = b } ∷ []) ∙ rw (ne_eqb c d o) (append-nil (only d ws))

module _ (digest : Bytes → Bytes) (t s : Bytes) (c : ℕ) (b : Bytes) (verdict room : ℕ) where
  abbrev ws : List Waiting
  ws = waiting_in s

  abbrev call : Called
  call = all digest t s c b verdict room

  abbrev passes : PassResult
  passes = passed digest t s c b verdict room

  -- ---- what waits after a 9, and after an admission

  module _ (g : WouldGet9 digest t s c b verdict room) (new : waits c b ws ≡ false) (place : has_place c ws ≡ true) where
    nine_ruled : RulesHold (waiting_last ws c b)
    nine_ruled =
        ruled_with ws (record { campaign = c; block = b }) (shelf_form_lem s g.tested.formed).rules g.tested.campaign
        (rw (nine_accepted digest t b verdict g.missing)) new place

    nine_fit : AllFit (waiting_last ws c b)
    nine_fit = fit_append ws (record { campaign = c; block = b } ∷ []) (shown_fit s) (nine_short digest t b verdict g.missing, tt)

    nine_waiting : waiting_in (shelf_bytes (waiting_last ws c b)) ≡ waiting_last ws c b
    nine_waiting = waiting_laid (waiting_last ws c b) nine_ruled.few nine_fit

  module _ (k : Tested digest t s c b verdict room) where
    after_ruled : RulesHold passes.waiting
    after_ruled = settled_ruled digest c (admitted digest t b verdict) ws (shelf_form_lem s k.formed).rules

    after_fit : AllFit passes.waiting
    after_fit = settled_fit digest c (admitted digest t b verdict) ws (shown_fit s)

    after_waiting : waiting_in (shelf_bytes passes.waiting) ≡ passes.waiting
    after_waiting = waiting_laid passes.waiting after_ruled.few after_fit

  -- what waits afterwards, as the definition over what waits has it
  pub called_waiting : Tested digest t s c b verdict room → waiting_in call.shelf ≡ (arrived digest (has_place c ws) t ws c b verdict).waiting
  unfolding arrived shelved
  called_waiting k =
      let a = admission digest t b verdict in
      let shown : Called → List Waiting = λ z. waiting_in z.shelf in
      by_test (eqb a.refusal 9)
      (λ y.
      let nine = eqb-true a.refusal 9 y in
      by_test (waits c b ws)
      (λ w. rw (y, w) (ap shown (at20 digest t s c b verdict room k nine w)))
      (λ n.
      by_test (has_place c ws)
      (λ p. rw (y, n, p) (ap shown (at9 digest t s c b verdict room k nine n p) ∙ nine_waiting (record { tested = k; missing = nine }) n p))
      (λ m. rw (y, n, m) (ap shown (at19 digest t s c b verdict room k nine n m)))))
      (λ n.
      by_test (eqb a.refusal 0)
      (λ z. rw (n, z) (ap shown (at0 digest t s c b verdict room k (eqb-true a.refusal 0 z)) ∙ after_waiting k))
      (λ z. rw (n, z) (ap shown (at_other digest t s c b verdict room k (eqb-false a.refusal 9 n) (eqb-false a.refusal 0 z)))))

  -- a fact about what waits: on the ways that change nothing, after a 9, after an admission
  by_waiting : (P : ℕ → List Waiting → List Try → Type 0)
      → ((n : ℕ) → n ≢ 9 → P n ws [])
      → (WouldGet9 digest t s c b verdict room → waits c b ws ≡ false → has_place c ws ≡ true → P 9 (waiting_last ws c b) [])
      → (Tested digest t s c b verdict room → P 0 passes.waiting passes.tries)
      → P call.answer.refusal (waiting_in call.shelf) call.tries
  by_waiting P same nine after =
      by_way digest t s c b verdict room (λ x. P x.answer.refusal (waiting_in x.shelf) x.tries)
      (λ h. same 21 (λ e. omega arith)) (λ l h. same 17 (λ e. omega arith)) (λ l h n. same 2 (λ e. omega arith)) (λ g y. same 20 (λ e. omega arith))
      (λ g n m. same 19 (λ e. omega arith))
      (λ g n y. rw (nine_waiting g n y, g.missing) (nine g n y))
      (λ k z. rw (after_waiting k, z) (after k))
      (λ k n z. same (admission digest t b verdict).refusal n)

  keeps_shelf : shelf_in_form s ≡ true → shelf_in_form call.shelf ≡ true
  keeps_shelf f =
      by_way digest t s c b verdict room (λ x. shelf_in_form x.shelf ≡ true) (λ h. f) (λ l h. f) (λ l h n. f) (λ g y. f) (λ g n m. f)
      (λ g n y. formed_bytes (waiting_last ws c b) (nine_fit g n y) (of_ruled _ (nine_ruled g n y)))
      (λ k z. formed_bytes passes.waiting (after_fit k) (of_ruled _ (after_ruled k))) (λ k n z. f)

  keeps_table : ((b : Bytes) → length (digest b) ≡ reference_size) → in_form t ≡ true → in_form call.table ≡ true
  keeps_table sized f =
      by_way digest t s c b verdict room (λ x. in_form x.table ≡ true) (λ h. f) (λ l h. f) (λ l h n. f) (λ g y. f) (λ g n m. f) (λ g n y. f)
      (λ k z.
      tried_keeps digest (λ x. in_form x ≡ true) (λ x y. kept digest x y 1 sized) passes.tries (admitted digest t b verdict) passes.table
      (settled_tried digest c (admitted digest t b verdict) ws) (kept digest t b verdict sized f))
      (λ k n z. f)

  never_19 : shelf_in_form s ≡ true → holds c ws < reserved → call.answer.refusal ≢ 19
  never_19 f h =
      let other = admission_elsewhere digest t b verdict in
      by_way digest t s c b verdict room (λ x. x.answer.refusal ≢ 19) (λ h e. omega arith) (λ l h e. omega arith) (λ l h n e. omega arith) (λ g y e. omega arith)
      (λ g n m e. true_not_false (place_for_two c ws (omega (arith, g.tested.campaign)) (shelf_form_lem s f).rules h) m)
      (λ g n y. other.not19) (λ k z. other.not19) (λ k n z. other.not19)

  left_as_it_was : (call.answer.refusal ≢ 0 → call.table ≡ t) × ((call.answer.refusal ≢ 0 → call.answer.refusal ≢ 9 → call.shelf ≡ s)
      × ((call.answer.refusal ≢ 0 → call.tries ≡ []) × (call.answer.refusal ≡ 9 → call.shelf ≡ shelf_bytes (waiting_last ws c b))))
  left_as_it_was =
      by_way digest t s c b verdict room
      (λ x. (x.answer.refusal ≢ 0 → x.table ≡ t) × ((x.answer.refusal ≢ 0 → x.answer.refusal ≢ 9 → x.shelf ≡ s)
      × ((x.answer.refusal ≢ 0 → x.tries ≡ []) × (x.answer.refusal ≡ 9 → x.shelf ≡ shelf_bytes (waiting_last ws c b)))))
      (λ h. (λ _. refl, (λ _ _. refl, (λ _. refl, λ e. absurd (omega arith)))))
      (λ l h. (λ _. refl, (λ _ _. refl, (λ _. refl, λ e. absurd (omega arith)))))
      (λ l h n. (λ _. refl, (λ _ _. refl, (λ _. refl, λ e. absurd (omega arith)))))
      (λ g y. (λ _. refl, (λ _ _. refl, (λ _. refl, λ e. absurd (omega arith)))))
      (λ g n m. (λ _. refl, (λ _ _. refl, (λ _. refl, λ e. absurd (omega arith)))))
      (λ g n y. (λ _. refl, (λ _ m. absurd (m g.missing), (λ _. refl, λ _. refl))))
      (λ k z. (λ m. absurd (m z), (λ m _. absurd (m z), (λ m. absurd (m z), λ e. absurd (omega arith)))))
      (λ k n z. (λ _. refl, (λ _ _. refl, (λ _. refl, λ e. absurd (n e)))))

  -- after an admission: admission's own numbers that are 0 have no other way
  after_admission : call.answer.refusal ≡ 0
      → TriedFrom digest (admitted digest t b verdict) call.tries call.table × Still digest c call.table (waiting_in call.shelf)
  after_admission =
      by_way digest t s c b verdict room
      (λ x. x.answer.refusal ≡ 0 → TriedFrom digest (admitted digest t b verdict) x.tries x.table × Still digest c x.table (waiting_in x.shelf))
      (λ h e. absurd (omega arith)) (λ l h e. absurd (omega arith)) (λ l h n e. absurd (omega arith)) (λ g y e. absurd (omega arith)) (λ g n m e. absurd (omega arith))
      (λ g n y e. absurd (omega (arith, g.missing)))
      (λ k z e. (
        settled_tried digest c (admitted digest t b verdict) ws,
        subst (Still digest c passes.table) (sym (after_waiting k)) (settled_still digest c (admitted digest t b verdict) ws),
      ))
      (λ k n z e. absurd (z e))

  few : length (listed call) ≤ max_share
  unfolding outcomes_of
  few =
      by_way digest t s c b verdict room (λ x. length (listed x) ≤ max_share) (λ h. omega arith) (λ l h. omega arith) (λ l h n. omega arith) (λ g y. omega arith)
      (λ g n m. omega arith) (λ g n y. omega arith)
      (λ k z.
      let shares = (fair_of ws (shelf_form_lem s k.formed).rules.fair).shares c (omega (arith, k.campaign)) in
      omega (arith, settled_places digest c (admitted digest t b verdict) ws))
      (λ k n z. omega arith)

  others_stay : (d : ℕ) → c ≢ d → only d (waiting_in call.shelf) ≡ only d ws
  others_stay d o =
      by_waiting (λ n vs ys. only d vs ≡ only d ws) (λ n m. refl) (λ g n y. only_behind d c b ws o)
      (λ k. settled_others digest c d o (admitted digest t b verdict) ws)

  accounted : (x : Bytes) → times_waiting c x (waiting_in call.shelf) + times_ended x call.tries
      ≡ times_waiting c x ws + cond (eqb call.answer.refusal 9 && same_bytes b x) 1 0
  unfolding count_in
  accounted x =
      by_waiting (λ n vs ys. times_waiting c x vs + times_ended x ys ≡ times_waiting c x ws + cond (eqb n 9 && same_bytes b x) 1 0)
      (λ n m. rw (ne_eqb n 9 m) refl)
      (λ g n y. omega (arith, times_behind c x b ws))
      (λ k. omega (arith, settled_accounted digest c x (admitted digest t b verdict) ws))

pub call_keeps : (digest : Bytes → Bytes) → ((b : Bytes) → length (digest b) ≡ reference_size) → (t s : Bytes) (c : ℕ) (b : Bytes) (verdict room : ℕ)
    → CallKeeps digest t s c b verdict room
call_keeps digest sized t s c b verdict room =
    let left = left_as_it_was digest t s c b verdict room in
    let after = after_admission digest t s c b verdict room in
    record {
      causes = causes digest t s c b verdict room;
      never19 = never_19 digest t s c b verdict room;
      shelf_formed = keeps_shelf digest t s c b verdict room;
      table_formed = keeps_table digest t s c b verdict room sized;
      table_left = left.0;
      shelf_left = left.1.0;
      none_tried = left.1.1.0;
      nine_waits = left.1.1.1;
      tried_from = λ e. (after e).0;
      settled = λ e. (after e).1;
      few = few digest t s c b verdict room;
      other_campaigns = others_stay digest t s c b verdict room;
      accounted = accounted digest t s c b verdict room;
    }

pub promises : (digest : Bytes → Bytes) → ((b : Bytes) → length (digest b) ≡ reference_size) → Promises digest
promises digest sized = record { kept = call_keeps digest sized }

pub sha256_promises : Promises sha256
sha256_promises = promises sha256 sha256_length
