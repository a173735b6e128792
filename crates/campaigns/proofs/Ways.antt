-- The ways out of an arrival: what each leaves, and that there is no other. Assumes nothing.
use mathlib.Core.Path.{◌≡◌, refl, sym, ap, subst, ◌∙◌}
use mathlib.Core.Bool.{true, false}
use mathlib.Core.Logic.{◌≢◌}
use mathlib.Core.List.{List, []}
use Prim.Native.Nat.{ℕ, ◌≤◌, ◌<◌}
use native.Mathlib.Omega.{arith}
use lib.Dec.{eqb, leb}
use borrow.Author.Tests.{eqb-true, eqb-false, eq-eqb, ne_eqb, leb-true, leb-false, le-leb, lt-leb}
use Rattle.base.specs.Bytes.{Bytes}
use Rattle.base.proofs.Tests.{by_test}
use Rattle.answer.specs.declared.Answer.{Answer}
use Rattle.answer.specs.Checks.{refused, answer_to}
use Rattle.answer.specs.Promises.{elsewhere}
use Rattle.answer.proofs.Checks.{number_of, never_answered}
use Rattle.shelf.specs.Layout.{Waiting, waiting_in, shelf_bytes}
use Rattle.shelf.specs.Rules.{max_campaign, has_place, waits}
use Rattle.shelf.specs.Form.{shelf_in_form}
use Rattle.shelf.proofs.InForm.{shelf_form_lem}
use Rattle.table.specs.Layout.{setup_of, count_of, view_of}
use Rattle.table.specs.Form.{in_form}
use Rattle.admission.specs.Admission.{admission, admitted}
use Rattle.admission.proofs.Causes.{by_checks}
use Rattle.campaigns.specs.Passes.{PassResult, settled}
use Rattle.campaigns.specs.Arriving.{Arrived, Called, outcomes_size, waiting_last, shelved, arrived, arrival}
use Rattle.campaigns.specs.Promises.{called, Tested, WouldGet9}

-- ---- admission answers none of the numbers that are an arrival's own

pub record Elsewhere (n : ℕ) : Type 0 where
  pub not17 : n ≢ 17
  pub not19 : n ≢ 19
  pub not20 : n ≢ 20
  pub not21 : n ≢ 21

pub admission_elsewhere : (digest : Bytes → Bytes) (t b : Bytes) (verdict : ℕ) → Elsewhere (admission digest t b verdict).refusal
unfolding admission elsewhere
admission_elsewhere digest t b verdict =
    let e = sym (number_of (by_checks digest (in_form t) (setup_of t) (view_of t) b verdict (count_of t))) in
    record {
      not17 = λ q. never_answered 17 _ _ refl (e ∙ q);
      not19 = λ q. never_answered 19 _ _ refl (e ∙ q);
      not20 = λ q. never_answered 20 _ _ refl (e ∙ q);
      not21 = λ q. never_answered 21 _ _ refl (e ∙ q);
    }

module _ (digest : Bytes → Bytes) (t s : Bytes) (c : ℕ) (b : Bytes) (verdict room : ℕ) where
  abbrev pub answer : Answer
  answer = admission digest t b verdict

  abbrev pub ws : List Waiting
  ws = waiting_in s

  abbrev pub all : Called
  all = called digest t s c b verdict room

  -- nothing is changed
  abbrev pub leaves : Answer → Called
  leaves a = record { answer = a; table = t; shelf = s; tries = [] }

  -- the block waits
  abbrev pub taken : Called
  taken = record { answer = answer; table = t; shelf = shelf_bytes (waiting_last ws c b); tries = [] }

  -- the passes after an admission
  abbrev pub passed : PassResult
  passed = settled digest (admitted digest t b verdict) c ws

  abbrev pub admits : Called
  admits = record { answer = answer; table = passed.table; shelf = shelf_bytes passed.waiting; tries = passed.tries }

  pub at21 : max_campaign < c → all ≡ leaves (refused 21 0)
  unfolding arrival answer_to
  at21 h = rw (lt-leb c max_campaign h)

  pub at17 : c ≤ max_campaign → room < outcomes_size → all ≡ leaves (refused 17 outcomes_size)
  unfolding arrival answer_to
  at17 l h = rw (le-leb c max_campaign l, lt-leb outcomes_size room h)

  pub at2 : c ≤ max_campaign → outcomes_size ≤ room → shelf_in_form s ≡ false → all ≡ leaves (refused 2 0)
  unfolding arrival answer_to
  at2 l h n = rw (le-leb c max_campaign l, le-leb outcomes_size room h, n)

  module _ (k : Tested digest t s c b verdict room) where
    laid : s ≡ shelf_bytes ws
    laid = (shelf_form_lem s k.formed).laid

    -- over what waits
    by_list : (x : Arrived) → arrived digest (has_place c ws) t ws c b verdict ≡ x → (y : Bytes) → shelf_bytes x.waiting ≡ y
        → all ≡ record { answer = x.answer; table = x.table; shelf = y; tries = x.tries }
    unfolding arrival answer_to
    by_list x e y l =
        rw (le-leb c max_campaign k.campaign, le-leb outcomes_size room k.outcomes, k.formed)
        (ap (λ (r : Arrived). record { answer = r.answer; table = r.table; shelf = shelf_bytes r.waiting; tries = r.tries }) e
        ∙ ap (λ (z : Bytes). record { answer = x.answer; table = x.table; shelf = z; tries = x.tries }) l)

    pub called_is : let r = arrived digest (has_place c ws) t ws c b verdict in all ≡ record { answer = r.answer; table = r.table; shelf = shelf_bytes r.waiting; tries = r.tries }
    called_is = by_list _ refl _ refl

    pub at0 : answer.refusal ≡ 0 → all ≡ admits
    unfolding arrived
    at0 z = by_list _ (rw (ne_eqb answer.refusal 9 (λ q. omega arith), eq-eqb answer.refusal 0 z)) _ refl

    pub at_other : answer.refusal ≢ 9 → answer.refusal ≢ 0 → all ≡ leaves answer
    unfolding arrived
    at_other n z = by_list _ (rw (ne_eqb answer.refusal 9 n, ne_eqb answer.refusal 0 z)) _ (sym laid)

    module _ (nine : answer.refusal ≡ 9) where
      is_nine : eqb answer.refusal 9 ≡ true
      is_nine = eq-eqb answer.refusal 9 nine

      pub at20 : waits c b ws ≡ true → all ≡ leaves (refused 20 0)
      unfolding arrived shelved
      at20 y = by_list _ (rw (is_nine, y)) _ (sym laid)

      module _ (new : waits c b ws ≡ false) where
        pub at19 : has_place c ws ≡ false → all ≡ leaves (refused 19 0)
        unfolding arrived shelved
        at19 n = by_list _ (rw (is_nine, new, n)) _ (sym laid)

        pub at9 : has_place c ws ≡ true → all ≡ taken
        unfolding arrived shelved
        at9 y = by_list _ (rw (is_nine, new, y)) _ refl

  -- what holds on every way holds of the call
  pub by_way : (P : Called → Type 0)
      → (max_campaign < c → P (leaves (refused 21 0)))
      → (c ≤ max_campaign → room < outcomes_size → P (leaves (refused 17 outcomes_size)))
      → (c ≤ max_campaign → outcomes_size ≤ room → shelf_in_form s ≡ false → P (leaves (refused 2 0)))
      → (WouldGet9 digest t s c b verdict room → waits c b ws ≡ true → P (leaves (refused 20 0)))
      → (WouldGet9 digest t s c b verdict room → waits c b ws ≡ false → has_place c ws ≡ false → P (leaves (refused 19 0)))
      → (WouldGet9 digest t s c b verdict room → waits c b ws ≡ false → has_place c ws ≡ true → P taken)
      → (Tested digest t s c b verdict room → answer.refusal ≡ 0 → P admits)
      → (Tested digest t s c b verdict room → answer.refusal ≢ 9 → answer.refusal ≢ 0 → P (leaves answer))
      → P all
  by_way P w21 w17 w2 w20 w19 w9 w0 other =
      by_test (leb c max_campaign)
      (λ lc.
      let l = leb-true c max_campaign lc in
      by_test (leb outcomes_size room)
      (λ rc.
      let r = leb-true outcomes_size room rc in
      by_test (shelf_in_form s)
      (λ f.
      let k : Tested digest t s c b verdict room = record { campaign = l; outcomes = r; formed = f } in
      by_test (eqb answer.refusal 9)
      (λ z.
      let nine = eqb-true answer.refusal 9 z in
      let g : WouldGet9 digest t s c b verdict room = record { tested = k; missing = nine } in
      by_test (waits c b ws)
      (λ y. subst P (sym (at20 k nine y)) (w20 g y))
      (λ n. by_test (has_place c ws) (λ y. subst P (sym (at9 k nine n y)) (w9 g n y)) (λ m. subst P (sym (at19 k nine n m)) (w19 g n m))))
      (λ n.
      let not9 = eqb-false answer.refusal 9 n in
      by_test (eqb answer.refusal 0)
      (λ z. let e = eqb-true answer.refusal 0 z in subst P (sym (at0 k e)) (w0 k e))
      (λ m. let e = eqb-false answer.refusal 0 m in subst P (sym (at_other k not9 e)) (other k not9 e))))
      (λ f. subst P (sym (at2 l r f)) (w2 l r f)))
      (λ rc. let r = leb-false outcomes_size room rc in subst P (sym (at17 l r)) (w17 l r)))
      (λ lc. let l = leb-false c max_campaign lc in subst P (sym (at21 l)) (w21 l))
