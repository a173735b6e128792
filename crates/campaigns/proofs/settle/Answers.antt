use mathlib.Core.Path.{◌≡◌, ap, ◌∙◌}
use mathlib.Core.Bool.{false}
use mathlib.Core.List.{List}
use Prim.Native.Nat.{ℕ}
use native.Mathlib.Omega.{arith}
use lib.ListN.{length}
use borrow.Author.Tests.{not-true, not-false}
use Rattle.std.specs.Borrow.{MutBor}
use Rattle.base.specs.Bytes.{Bytes}
use Rattle.sha256.specs.Sha256.{sha256}
use Rattle.answer.specs.Buffer.{put_answers}
use Rattle.shelf.specs.Layout.{waiting_in}
use Rattle.shelf.specs.Steps.{Becomes}
use Rattle.campaigns.specs.Passes.{outcomes_of, settled}
use Rattle.campaigns.proofs.Turns.{Came, rest_of}
use Rattle.campaigns.proofs.LoopInvariants.{PassesInvariant, settles_on, settles_down}
use Rattle.campaigns.proofs.settle.Goals as goal
use Rattle.campaigns.proofs.settle.Goals.{After-pass_over-pass}

-- what the end of the passes shows
module _ (c : ℕ) (t₀ : Bytes) (x : MutBor Bytes) (o₀ : List ℕ) (t : Bytes) (y : MutBor Bytes) (o : List ℕ) (ended : ℕ) (g : PassesInvariant c t₀ x o₀ t y o ended false) where
  done : (ended ≡ length (outcomes_of (settled sha256 t₀ c (waiting_in x.now)).tries)) × ((t ≡ (settled sha256 t₀ c (waiting_in x.now)).table)
      × (Becomes x y (settled sha256 t₀ c (waiting_in x.now)).waiting × (o ≡ put_answers o₀ 0 (outcomes_of (settled sha256 t₀ c (waiting_in x.now)).tries))))
  unfolding rest_of
  done = (
    ap (λ (r : Came). r.outcomes.count) g.left ∙ omega arith,
    (ap (λ (r : Came). r.table) g.left, (record { waiting = ap (λ (r : Came). r.waiting) g.left; same_reference = g.same_reference }, ap (λ (r : Came). r.outcomes.numbers) g.left)),
  )

-- what a pass leaves
after : (c : After-pass_over-pass) → let a = c.args in let u = c.pass_over-pass in
    PassesInvariant a.campaign a.table.now a.shelf.now.bytes a.outcomes.now u.new.table u.new.shelf.bytes u.new.outcomes u.result.ended u.result.admitted
after c =
    let u = c.pass_over-pass in
    settles_on _ _ _ _ _ _ _ _ c.loop-campaign.invariant u.new.table u.new.shelf.bytes u.new.outcomes u.result.ended u.result.admitted
    u.ensures.admitted_value u.ensures.ended_value u.ensures.table_after u.ensures.shelf_after u.ensures.outcomes_after

pub loop-campaign-smaller : goal.loop-campaign-smaller
loop-campaign-smaller c =
    let u = c.pass_over-pass in
    settles_down _ _ _ _ _ _ _ _ c.loop-campaign.invariant u.new.table u.new.shelf.bytes u.new.outcomes u.result.ended u.result.admitted
    u.ensures.admitted_value u.ensures.ended_value u.ensures.table_after u.ensures.shelf_after u.ensures.outcomes_after (not-false _ c.if-not-pass.false)

pub loop-campaign-preserved : goal.loop-campaign-preserved
loop-campaign-preserved c = rw (not-false _ c.if-not-pass.false) at (after (goal.at.loop-campaign-preserved c).After-pass_over-pass)

pub returns-then-not-pass : goal.returns-then-not-pass
returns-then-not-pass c = let w = done _ _ _ _ _ _ _ _ (rw (not-true _ c.if-not-pass.true) at (after (goal.at.returns-then-not-pass c).After-pass_over-pass)) in record {
  value = w.0;
  table_after = w.1.0;
  shelf_after = w.1.1.0;
  outcomes_after = w.1.1.1;
}
