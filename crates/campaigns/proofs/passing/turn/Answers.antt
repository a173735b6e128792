-- `turn` meets its contract: another campaign's entry, one that waits on, one that is let in or dropped. Assumes nothing.
use mathlib.Core.Path.{◌≡◌, refl, sym, ap, ◌∙◌}
use mathlib.Core.Bool.{Bool, true, false, ◌||◌}
use mathlib.Core.Logic.{◌≢◌}
use mathlib.Core.List.{List}
use Prim.Native.Nat.{ℕ, ◌+◌}
use native.Mathlib.Omega.{arith}
use lib.Dec.{eqb}
use lib.ListN.{get_or}
use borrow.Author.Rules.{rules}
use borrow.Author.Tests.{eq-eqb, ne_eqb, eqb-true, eqb-false}
use Rattle.std.specs.Borrow.{MutBor}
use Rattle.base.specs.Bytes.{Bytes}
use Rattle.sha256.specs.Sha256.{sha256}
use Rattle.answer.proofs.Checks.{number_of}
use Rattle.answer.specs.Buffer.{put_answer}
use Rattle.answer.specs.Refusals.{answer_of}
use Rattle.answer.specs.declared.Answer.{Answer}
use Rattle.shelf.specs.Layout.{Waiting, waiting_in}
use Rattle.shelf.specs.Rules.{is_for}
use Rattle.shelf.specs.Steps.{no_waiting, Becomes, without}
use Rattle.admission.specs.Admission.{admission, admitted}
use Rattle.admission.proofs.Effect.{refused_table}
use Rattle.campaigns.specs.Passes.{outcome}
use Rattle.campaigns.specs.Steps.{turned}
use Rattle.campaigns.specs.declared.Pass.{Pass}
use Rattle.campaigns.proofs.passing.turn.Goals as goal
use Rattle.campaigns.proofs.passing.turn.Goals.{Joined-p, then-p, else-p}

module _ (t : Bytes) (x : MutBor Bytes) (o : List ℕ) (c : ℕ) (p : Pass) where
  abbrev ws : List Waiting
  ws = waiting_in x.now

  abbrev here : Waiting
  here = get_or ws p.at no_waiting

  -- what a call promises
  abbrev Promised : Pass → Bytes → MutBor Bytes → List ℕ → Type 0
  Promised r t' y o' =
      (r ≡ (turned sha256 t ws o c p).next)
      × ((t' ≡ (turned sha256 t ws o c p).table) × (Becomes x y (turned sha256 t ws o c p).waiting × (o' ≡ (turned sha256 t ws o c p).outcomes)))

  abbrev by : Pass
  by = record { at = p.at + 1; admitted = p.admitted; ended = p.ended }

  module _ (k : ℕ) (campaign_here : k ≡ here.campaign) where
    way_other : k ≢ c → Promised by t x o
    unfolding turned
    way_other n =
        let e : is_for c here ≡ false = ne_eqb here.campaign c (λ q. n (campaign_here ∙ q)) in
        (rw e, (rw e, (record { waiting = rw e; same_reference = refl }, rw e)))

    module _ (own : k ≡ c) (b : Bytes) (block_here : b ≡ here.block) (a : Answer) (t' : Bytes) (ea : a ≡ admission sha256 t b 1) (et : t' ≡ admitted sha256 t b 1) where
      mine : is_for c here ≡ true
      mine = eq-eqb here.campaign c (sym campaign_here ∙ own)

      tried : a ≡ admission sha256 t here.block 1
      tried = ea ∙ ap (λ (x : Bytes). admission sha256 t x 1) block_here

      left : t' ≡ admitted sha256 t here.block 1
      left = et ∙ ap (λ (x : Bytes). admitted sha256 t x 1) block_here

      way_stays : a.refusal ≡ 9 → Promised by t' x o
      unfolding turned
      way_stays z =
          let r : (admission sha256 t here.block 1).refusal ≡ 9 = number_of (sym tried) ∙ z in
          let e = eq-eqb (admission sha256 t here.block 1).refusal 9 r in
          let same = refused_table sha256 t here.block 1 (λ q. omega arith) in
          (rw (mine, e), (rw (mine, e) (left ∙ same), (record { waiting = rw (mine, e); same_reference = refl }, rw (mine, e))))

      way_goes : a.refusal ≢ 9 → (y : MutBor Bytes) → Becomes x y (without p.at ws) → (o' : List ℕ) → o' ≡ put_answer o p.ended (outcome a)
          → (b' : Bool) → b' ≡ (p.admitted || eqb a.refusal 0) → Promised (record { at = p.at; admitted = b'; ended = p.ended + 1 }) t' y o'
      unfolding turned
      way_goes n y ey o' eo b' eb' =
          let x = admission sha256 t here.block 1 in
          let z = ne_eqb x.refusal 9 (λ q. n (number_of tried ∙ q)) in
          let yr = eb' ∙ ap (λ (v : Answer). p.admitted || eqb v.refusal 0) tried in
          let er = eo ∙ ap (λ (v : Answer). put_answer o p.ended (outcome v)) tried in
          (rw (mine, z) (λ i. record { at = p.at; admitted = yr i; ended = p.ended + 1 }), (rw (mine, z) left, (rw (mine, z) ey, rw (mine, z) er)))

-- ---- the places of the walk

-- whether the pass has let a block in
let_in : (c : Joined-p) → c.if-p.result ≡ (c.args.p.admitted || eqb (answer_of c.admit-tried.result).refusal 0)
let_in c = elim c.if-p.branch [
  | then-p w ↦ rw w.if-p.true (w.result-is ∙ w.if-p.true)
  | else-p w ↦ rw w.if-p.false (w.result-is ∙ search rules)
]

pub returns-then-campaign_at-campaign : goal.returns-then-campaign_at-campaign
returns-then-campaign_at-campaign c = let w = way_other c.args.table.now c.args.shelf.now.bytes c.args.outcomes.now c.args.campaign c.args.p _ c.campaign_at.ensures c.if-campaign_at-campaign.true in record {
  value = w.0;
  table_after = w.1.0;
  shelf_after = w.1.1.0;
  outcomes_after = w.1.1.1;
}

pub returns-then-waits_on : goal.returns-then-waits_on
returns-then-waits_on c = let w = way_stays c.args.table.now c.args.shelf.now.bytes c.args.outcomes.now c.args.campaign c.args.p _ c.campaign_at.ensures c.if-campaign_at-campaign.false
    _ c.block_at.ensures _ _ c.admit-tried.ensures.value c.admit-tried.ensures.table_after (eqb-true _ _ (sym c.waits_on.ensures ∙ c.if-waits_on.true)) in record {
      value = w.0;
      table_after = w.1.0;
      shelf_after = w.1.1.0;
      outcomes_after = w.1.1.1;
    }

pub returns : goal.returns
returns c = let w = way_goes c.args.table.now c.args.shelf.now.bytes c.args.outcomes.now c.args.campaign c.args.p _ c.campaign_at.ensures c.if-campaign_at-campaign.false
    _ c.block_at.ensures _ _ c.admit-tried.ensures.value c.admit-tried.ensures.table_after (eqb-false _ _ (sym c.waits_on.ensures ∙ c.if-waits_on.false))
    _ c.take_out.ensures _ (c.put_answer.ensures ∙ ap (put_answer c.args.outcomes.now c.args.p.ended) c.outcome_of.ensures) _ (let_in (goal.at.returns c).Joined-p) in record {
      value = w.0;
      table_after = w.1.0;
      shelf_after = w.1.1.0;
      outcomes_after = w.1.1.1;
    }
