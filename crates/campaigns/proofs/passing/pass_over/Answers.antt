use mathlib.Core.Path.{◌≡◌, sym, ap, ◌∙◌}
use mathlib.Core.Bool.{false}
use mathlib.Core.List.{List}
use Prim.Native.Nat.{ℕ, ◌+◌, ◌≤◌, ◌<◌}
use native.Mathlib.Omega.{arith}
use lib.ListN.{length}
use Rattle.std.specs.Borrow.{MutBor}
use Rattle.base.specs.Bytes.{Bytes}
use Rattle.sha256.specs.Sha256.{sha256}
use Rattle.answer.specs.Buffer.{put_answers}
use Rattle.shelf.specs.Layout.{waiting_in}
use Rattle.shelf.specs.Steps.{Becomes}
use Rattle.campaigns.specs.Passes.{outcomes_of, admits, pass}
use Rattle.campaigns.specs.declared.Pass.{Pass}
use Rattle.campaigns.proofs.Turns.{Result, left_of, left_none}
use Rattle.campaigns.proofs.LoopInvariants.{PassInvariant, goes_on, goes_down}
use Rattle.campaigns.proofs.passing.pass_over.Goals as goal
use Rattle.campaigns.proofs.passing.pass_over.Goals.{In-loop-p}

-- what the end of the pass shows
module _ (c : ℕ) (t₀ : Bytes) (x : MutBor Bytes) (o₀ : List ℕ) (ended : ℕ) (t : Bytes) (y : MutBor Bytes) (o : List ℕ) (p : Pass)
    (g : PassInvariant c t₀ x o₀ (record { at = 0; admitted = false; ended = ended }) t y o p) (over : length (waiting_in y.now) ≤ p.at) where
  whole : record { table = t; waiting = waiting_in y.now; outcomes = record { numbers = o; count = p.ended }; admitted = p.admitted }
      ≡ left_of sha256 c t₀ (waiting_in x.now) o₀ (record { at = 0; admitted = false; ended = ended })
  whole = sym (left_none sha256 c t (waiting_in y.now) o p over) ∙ g.left

  done : (p.admitted ≡ admits (pass sha256 t₀ c (waiting_in x.now)).tries) × ((p.ended ≡ ended + length (outcomes_of (pass sha256 t₀ c (waiting_in x.now)).tries))
      × ((t ≡ (pass sha256 t₀ c (waiting_in x.now)).table) × (Becomes x y (pass sha256 t₀ c (waiting_in x.now)).waiting
      × (o ≡ put_answers o₀ ended (outcomes_of (pass sha256 t₀ c (waiting_in x.now)).tries)))))
  unfolding left_of
  done = (
    ap (λ (r : Result). r.admitted) whole,
    (
      ap (λ (r : Result). r.outcomes.count) whole,
      (
        ap (λ (r : Result). r.table) whole,
        (record { waiting = ap (λ (r : Result). r.waiting) whole; same_reference = g.same_reference }, ap (λ (r : Result). r.outcomes.numbers) whole),
      ),
    ),
  )

-- the pass stands at an entry
below : (c : In-loop-p) → let l = c.loop-p in l.p.at < length (waiting_in l.shelf.bytes.now)
below c =
    let l = c.loop-p in
    omega (arith, c.loop-p-test.true, c.count.ensures)

pub loop-p-smaller : goal.loop-p-smaller
loop-p-smaller c =
    let l = c.loop-p in
    let u = c.turn-p in
    goes_down _ _ _ _ _ _ _ _ _ l.invariant (below (goal.at.loop-p-smaller c).In-loop-p) u.new.table u.new.shelf.bytes u.new.outcomes u.result u.ensures.value u.ensures.table_after u.ensures.shelf_after
    u.ensures.outcomes_after

pub loop-p-preserved : goal.loop-p-preserved
loop-p-preserved c =
    let l = c.loop-p in
    let u = c.turn-p in
    goes_on _ _ _ _ _ _ _ _ _ l.invariant (below (goal.at.loop-p-preserved c).In-loop-p) u.new.table u.new.shelf.bytes u.new.outcomes u.result u.ensures.value u.ensures.table_after u.ensures.shelf_after
    u.ensures.outcomes_after

pub returns : goal.returns
returns c = let l = c.loop-p in
    let w = done _ _ _ _ _ _ _ _ _ l.invariant (omega (arith, c.loop-p-test.false, c.count.ensures)) in record {
      admitted_value = w.0;
      ended_value = w.1.0;
      table_after = w.1.1.0;
      shelf_after = w.1.1.1.0;
      outcomes_after = w.1.1.1.1;
    }
