-- `arrive` meets its contract: one law for each way out. Assumes nothing.
use mathlib.Core.Path.{◌≡◌, refl, sym, ap, ◌∙◌}
use mathlib.Core.Bool.{true, false}
use mathlib.Core.Logic.{◌≢◌}
use mathlib.Core.List.{List, []}
use Prim.Native.Nat.{ℕ, ◌≤◌, ◌<◌}
use native.Mathlib.Omega.{arith}
use lib.Dec.{eqb, leb}
use lib.ListN.{length}
use borrow.Author.Rules.{rules}
use borrow.Author.Tests.{eqb-true, eq-eqb, ne_eqb, le-leb, lt-leb}
use Rattle.std.specs.Prelude.{Err}
use Rattle.base.specs.Bytes.{Bytes}
use Rattle.sha256.specs.Sha256.{sha256}
use Rattle.answer.proofs.Checks.{number_of}
use Rattle.answer.specs.Buffer.{put_answers}
use Rattle.answer.specs.declared.Answer.{Answer}
use Rattle.answer.specs.Checks.{success, refused, answer_to}
use Rattle.answer.proofs.Refusals.{numbered}
use Rattle.answer.specs.Refusals.{answer_of}
use Rattle.shelf.specs.Layout.{Waiting, waiting_in, shelf_bytes}
use Rattle.shelf.specs.Rules.{campaign_count, max_campaign, has_place}
use Rattle.shelf.specs.Form.{shelf_in_form}
use Rattle.shelf.proofs.InForm.{shelf_form_lem}
use Rattle.admission.specs.Admission.{admission, admitted}
use Rattle.admission.proofs.Effect.{refused_table}
use Rattle.campaigns.specs.Passes.{outcomes_of, settled}
use Rattle.campaigns.specs.Arriving.{Arrived, Called, outcomes_size, listed, arrived, arrival}
use Rattle.campaigns.specs.Steps.{shelving, waiting_then}
use Rattle.campaigns.specs.declared.ArrivalAnswer.{ArrivalAnswer}
use Rattle.campaigns.proofs.MissingReference.{let_in, arrived_refused, refused_at_all, nine_short}
use Rattle.campaigns.proofs.arrive.Goals as goal
use Rattle.campaigns.proofs.arrive.Goals.{In-Some, In_err-place, After-settle-ended}

-- an answer by which nothing has ended
abbrev plain : Answer → ArrivalAnswer
plain a = record { answer = a; ended = 0 }

module _ (t s : Bytes) (c : ℕ) (b : Bytes) (verdict : ℕ) (o : List ℕ) where
  abbrev called : Called
  called = arrival sha256 t s c b verdict (length o)

  -- what a call promises
  abbrev Promised : ArrivalAnswer → Bytes → Bytes → List ℕ → Type 0
  Promised r t' s' o' =
      (r.answer ≡ called.answer) × ((r.ended ≡ length (listed called)) × ((t' ≡ called.table) × ((s' ≡ called.shelf) × (o' ≡ put_answers o 0 (listed called)))))

  -- where all of what a call leaves is given
  promised : (x : Called) → called ≡ x → (r : ArrivalAnswer) (t' s' : Bytes) (o' : List ℕ) → r.answer ≡ x.answer → r.ended ≡ length (outcomes_of x.tries)
      → t' ≡ x.table → s' ≡ x.shelf → o' ≡ put_answers o 0 (outcomes_of x.tries) → Promised r t' s' o'
  promised x e r t' s' o' ra re et es eo = (
    ra ∙ ap (λ (y : Called). y.answer) (sym e),
    (
      re ∙ ap (λ (y : Called). length (listed y)) (sym e),
      (
        et ∙ ap (λ (y : Called). y.table) (sym e),
        (es ∙ ap (λ (y : Called). y.shelf) (sym e), eo ∙ ap (λ (y : Called). put_answers o 0 (listed y)) (sym e)),
      ),
    ),
  )

  -- a check before admission's does not hold: nothing is changed
  way_first : (a : Answer) → called ≡ record { answer = a; table = t; shelf = s; tries = [] } → (r : ArrivalAnswer) → r ≡ plain a → Promised r t s o
  unfolding outcomes_of put_answers
  way_first a e r q =
      promised (record { answer = a; table = t; shelf = s; tries = [] }) e r t s o (ap (λ (x : ArrivalAnswer). x.answer) q) (ap (λ (x : ArrivalAnswer). x.ended) q) refl refl refl

  way21 : campaign_count ≤ c → (r : ArrivalAnswer) → r ≡ plain (refused 21 0) → Promised r t s o
  unfolding arrival answer_to
  way21 h = way_first (refused 21 0) (rw (lt-leb c max_campaign (omega arith)))

  module _ (low : c < campaign_count) where
    up_to : leb c max_campaign ≡ true
    up_to = le-leb c max_campaign (omega arith)

    way17 : length o < outcomes_size → (r : ArrivalAnswer) → r ≡ plain (refused 17 outcomes_size) → Promised r t s o
    unfolding arrival answer_to
    way17 h = way_first (refused 17 outcomes_size) (rw (up_to, lt-leb outcomes_size (length o) h))

    module _ (long : outcomes_size ≤ length o) where
      room : leb outcomes_size (length o) ≡ true
      room = le-leb outcomes_size (length o) long

      way2 : shelf_in_form s ≡ false → (r : ArrivalAnswer) → r ≡ plain (refused 2 0) → Promised r t s o
      unfolding arrival answer_to
      way2 n = way_first (refused 2 0) (rw (up_to, room, n))

      module _ (formed : shelf_in_form s ≡ true) (a : Answer) (t' : Bytes) (ea : a ≡ admission sha256 t b verdict) (et : t' ≡ admitted sha256 t b verdict) where
        abbrev ws : List Waiting
        ws = waiting_in s

        abbrev all : Arrived
        all = arrived sha256 (has_place c ws) t ws c b verdict

        -- over what waits
        by_list : (x : Arrived) → all ≡ x → (r : ArrivalAnswer) (t'' s'' : Bytes) (o'' : List ℕ) → r.answer ≡ x.answer → r.ended ≡ length (outcomes_of x.tries)
            → t'' ≡ x.table → s'' ≡ shelf_bytes x.waiting → o'' ≡ put_answers o 0 (outcomes_of x.tries) → Promised r t'' s'' o''
        unfolding arrival answer_to
        by_list x e =
            promised (record { answer = x.answer; table = x.table; shelf = shelf_bytes x.waiting; tries = x.tries })
            (rw (up_to, room, formed) (ap (λ (y : Arrived). record { answer = y.answer; table = y.table; shelf = shelf_bytes y.waiting; tries = y.tries }) e))

        -- the answer q is a refusal, by admission or by the shelf
        way_refused : (q : Answer) → q ≡ shelving a ws c b → q.refusal ≢ 0 → (s' : Bytes) → s' ≡ shelf_bytes (waiting_then a ws c b) → Promised (plain q) t' s' o
        unfolding outcomes_of put_answers
        way_refused q eq z s' es =
            let some : (shelving (admission sha256 t b verdict) ws c b).refusal ≢ 0 = rw (← ea, ← eq) z in
            by_list _ (arrived_refused sha256 t ws c b verdict some) (plain q) t' s' o (rw (← ea) eq) refl
            (et ∙ refused_table sha256 t b verdict (refused_at_all sha256 t ws c b verdict some)) (rw (← ea) es) refl

        -- it is a success, and passes follow
        way_settled : (q : Answer) → q ≡ shelving a ws c b → q.refusal ≡ 0 → (vs : List Waiting) → vs ≡ waiting_then a ws c b → (n : ℕ) (t'' s'' : Bytes) (o'' : List ℕ)
            → n ≡ length (outcomes_of (settled sha256 t' c vs).tries) → t'' ≡ (settled sha256 t' c vs).table → s'' ≡ shelf_bytes (settled sha256 t' c vs).waiting
            → o'' ≡ put_answers o 0 (outcomes_of (settled sha256 t' c vs).tries) → Promised (record { answer = q; ended = n }) t'' s'' o''
        unfolding arrived
        way_settled q eq z vs ev n t'' s'' o'' en et'' es eo =
            let y : a.refusal ≡ 0 = rw (← ea) at (let_in sha256 t ws c b verdict (rw (← ea, ← eq) z)) in
            let other : eqb a.refusal 9 ≡ false = ne_eqb a.refusal 9 (λ k. omega arith) in
            let same : vs ≡ ws = ev ∙ rw other in
            let p = settled sha256 t' c ws in
            let e : all ≡ record { answer = a; table = p.table; waiting = p.waiting; tries = p.tries } =
            rw (← ea, other, eq-eqb a.refusal 0 y, ← et) in
            by_list (record { answer = a; table = p.table; waiting = p.waiting; tries = p.tries }) e (record { answer = q; ended = n }) t'' s'' o'' (eq ∙ rw other)
            (rw same at en) (rw same at et'') (rw same at es) (rw same at eo)

-- ---- the places of the walk

pub returns-then-from-ge-CAMPAIGNS : goal.returns-then-from-ge-CAMPAIGNS
returns-then-from-ge-CAMPAIGNS c = let q = c.args in
    let w = way21 q.table.now q.shelf.now q.campaign q.block.now q.verdict q.outcomes.now (omega (arith, c.from.ensures, c.if-from-ge-CAMPAIGNS.true)) _ refl in record {
      answer_value = w.0;
      ended_value = w.1.0;
      table_after = w.1.1.0;
      shelf_after = w.1.1.1.0;
      outcomes_after = w.1.1.1.1;
    }

pub returns-then-outcomes-lt-OUTCOMES_SIZE : goal.returns-then-outcomes-lt-OUTCOMES_SIZE
returns-then-outcomes-lt-OUTCOMES_SIZE c = let q = c.args in
    let w = way17 q.table.now q.shelf.now q.campaign q.block.now q.verdict q.outcomes.now (omega (arith, c.from.ensures, c.if-from-ge-CAMPAIGNS.false)) c.if-outcomes-lt-OUTCOMES_SIZE.true _ refl in record {
      answer_value = w.0;
      ended_value = w.1.0;
      table_after = w.1.1.0;
      shelf_after = w.1.1.1.0;
      outcomes_after = w.1.1.1.1;
    }

pub returns-in_default : goal.returns-in_default
returns-in_default c = let q = c.args in
    let w = way2 q.table.now q.shelf.now q.campaign q.block.now q.verdict q.outcomes.now (omega (arith, c.from.ensures, c.if-from-ge-CAMPAIGNS.false)) c.if-outcomes-lt-OUTCOMES_SIZE.false
    c.in_default.ensures.shelf _ refl in record {
      answer_value = w.0;
      ended_value = w.1.0;
      table_after = w.1.1.0;
      shelf_after = w.1.1.1.0;
      outcomes_after = w.1.1.1.1;
    }

low : (c : In-Some) → c.args.campaign < campaign_count
low c = omega (arith, c.from.ensures, c.if-from-ge-CAMPAIGNS.false)

-- the shelf that is lent is one in form
pub invariant_of-shelf : goal.invariant_of-shelf
invariant_of-shelf c =
    let f = rw (← c.in-Some.ensures.shelf.0) at (shelf_form_lem _ c.in-Some.ensures.shelf.1) in
    record { laid = f.laid; few = f.rules.few }

pub shelve-requires : goal.shelve-requires
shelve-requires c = let q = c.args in
    λ y. nine_short sha256 q.table.now q.block.now q.verdict (number_of (sym c.admit-tried.ensures.value) ∙ eqb-true _ _ y)

-- an arrival that is refused
refused_there : (c : In_err-place) → let q = c.args in
    Promised q.table.now q.shelf.now q.campaign q.block.now q.verdict q.outcomes.now (plain (answer_of (Err c.in_err-place.field-0.0))) c.admit-tried.new.table c.shelve.new.shelf.bytes.now q.outcomes.now
refused_there c = let q = c.args in
    let k = (goal.at.In_err-place c).In-Some in
    let lent = c.in-Some.ensures.shelf.0 in
    way_refused q.table.now q.shelf.now q.campaign q.block.now q.verdict q.outcomes.now (low k) c.if-outcomes-lt-OUTCOMES_SIZE.false c.in-Some.ensures.shelf.1
    _ _ c.admit-tried.ensures.value c.admit-tried.ensures.table_after (answer_of (Err c.in_err-place.field-0.0)) (rw lent at c.in_err-place.ensures.value)
    (λ z. absurd (omega (arith, numbered c.in_err-place.field-0.0)))
    c.shelve.new.shelf.bytes.now (c.shelve.new.shelf.laid ∙ ap shelf_bytes (rw lent at c.in_err-place.ensures.shelf_after.waiting))

-- one that is admitted
admitted_there : (c : After-settle-ended) → let q = c.args in let u = c.settle-ended in
    Promised q.table.now q.shelf.now q.campaign q.block.now q.verdict q.outcomes.now (record { answer = success c.in_ok-place.place; ended = u.result }) u.new.table u.new.shelf.bytes.now u.new.outcomes
admitted_there c = let q = c.args in
    let k = (goal.at.After-settle-ended c).In-Some in
    let u = c.settle-ended in
    let lent = c.in-Some.ensures.shelf.0 in
    way_settled q.table.now q.shelf.now q.campaign q.block.now q.verdict q.outcomes.now (low k) c.if-outcomes-lt-OUTCOMES_SIZE.false c.in-Some.ensures.shelf.1
    _ _ c.admit-tried.ensures.value c.admit-tried.ensures.table_after (success c.in_ok-place.place) (rw lent at c.in_ok-place.ensures.value) refl
    (waiting_in c.shelve.new.shelf.bytes.now) (rw lent at c.in_ok-place.ensures.shelf_after.waiting)
    u.result u.new.table u.new.shelf.bytes.now u.new.outcomes u.ensures.value u.ensures.table_after (u.new.shelf.laid ∙ ap shelf_bytes u.ensures.shelf_after.waiting) u.ensures.outcomes_after

pub returns-in_err-place : goal.returns-in_err-place
returns-in_err-place c =
    let handed : c.from_residual.result ≡ Err c.in_err-place.field-0.0 = search rules in
    let w = refused_there (goal.at.returns-in_err-place c).In_err-place in
    let e = w.1.1.1.0 in
    rw handed (record {
      answer_value = w.0;
      ended_value = w.1.0;
      table_after = w.1.1.0;
      shelf_after = search rules;
      outcomes_after = w.1.1.1.1;
    })

pub returns : goal.returns
returns c = let w = admitted_there (goal.at.returns c).After-settle-ended in
    let e = w.1.1.1.0 in record {
      answer_value = w.0;
      ended_value = w.1.0;
      table_after = w.1.1.0;
      shelf_after = search rules;
      outcomes_after = w.1.1.1.1;
    }
