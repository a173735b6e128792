-- A retiring that passes: every other place keeps its history one place lower, and the history of place 0 is the last that was retired. Assumes
-- nothing.
use mathlib.Core.Path.{◌≡◌, sym, ap₂, ◌∙◌, subst}
use mathlib.Core.Bool.{true}
use mathlib.Core.Logic.{◌≢◌}
use mathlib.Core.List.{List, ◌∷◌, ◌++◌, Memᴰ}
use Prim.Native.Nat.{ℕ, zero, suc, ◌-◌, ◌<◌}
use native.Mathlib.Nat.{le_of_suc-le-suc}
use native.Mathlib.Omega.{arith}
use lib.Dec.{ltb}
use borrow.Author.Tests.{lt-ltb}
use Rattle.base.specs.Bytes.{Bytes}
use Rattle.base.proofs.Tests.{and_right}
use Rattle.base.proofs.Members.{newest, newest_all}
use Rattle.setup.specs.Setup.{Setup}
use Rattle.table.specs.View.{max_places}
use Rattle.table.specs.Layout.{count_of, row_at}
use Rattle.records.specs.Moving.{Moved}
use Rattle.retire.specs.Retiring.{retiring, retired_records}
use Rattle.retire.specs.Promises.{Retirable}
use Rattle.retire.proofs.Promises.{promises}
use Rattle.history.specs.History.{History, children}
use Rattle.history.proofs.Admissions.{InTurn}
use Rattle.run.specs.Ledger.{retire, Ledger, taken, view_in}
use Rattle.run.specs.Run.{Site}
use Rattle.run.proofs.Simulation.{Simulates, few, some_held, refers_moved}
use Rattle.run.proofs.PlaceHistories.{PlaceHistories}

module _ (digest : Bytes → Bytes) (s : Setup) (size : ℕ) (l : Ledger) (x : Site) (t : Simulates digest s size l x) (g : PlaceHistories digest s l x)
    (e : (retiring x.table x.records).refusal ≡ 0) where
  some : 0 < l.held
  some = some_held digest s size l x t e

  may : Retirable x.table
  may = ((promises.causes x.table x.records).none.0 e).1

  parts : Moved x.records (retired_records x.table x.records) (count_of x.table)
  parts = promises.parts x.table x.records e

  in_turn : InTurn digest (newest (λ i. g.history (suc i)) (l.held - 1) ++ (g.history 0 ∷ g.retired))
  in_turn = subst (InTurn digest) (newest_all g.history l.held g.retired some) g.in_turn

  -- what refers to place 0 is interpreted, so an uninterpreted place loses nothing
  waits : (i : ℕ) → i < l.held - 1 → l.mark (suc i) ≢ 1 → (c : History) → Memᴰ c (children (g.history (suc i)))
      → (j : ℕ) × (j < i) × (((view_in digest (taken l retire)).row i).refers_to j ≡ true) × (c ≡ g.history (suc j))
  waits i h n c m = go (g.waits (suc i) (omega arith) n c m)
    where
      below : suc i < count_of x.table
      below = omega (arith, t.count)

      go : ((j : ℕ) × (j < suc i) × (((view_in digest l).row (suc i)).refers_to j ≡ true) × (c ≡ g.history j))
          → (j : ℕ) × (j < i) × (((view_in digest (taken l retire)).row i).refers_to j ≡ true) × (c ≡ g.history (suc j))
      go (zero, k, y, q) =
          let refers : (row_at x.table (suc i)).refers_to 0 ≡ true = (t.rows (suc i) below).refers_to 0 (omega arith) ∙ y in
          absurd (n (sym (t.rows (suc i) below).mark ∙ may.referrers (suc i) below refers))
      go (suc j, k, y, q) =
          let fits : suc j < max_places = omega (arith, k, below, few digest s size l x t) in
          (j, le_of_suc-le-suc k, sym (refers_moved digest s size l x t e i j (omega arith)) ∙ rw (lt-ltb (suc j) max_places fits, y), q)

  pub retires : (table : Bytes) → PlaceHistories digest s (taken l retire) (record { table = table; records = retired_records x.table x.records })
  unfolding taken
  retires table =
      record {
        history = λ i. g.history (suc i);
        retired = g.history 0 ∷ g.retired;
        blocks = λ i h. g.blocks (suc i) (omega arith);
        retired_blocks = ap₂ (λ (b : Bytes) (bs : List Bytes). b ∷ bs) (g.blocks 0 some) g.retired_blocks;
        in_turn = in_turn;
        refers = λ i j h k y. g.refers (suc i) (suc j) (omega arith) (omega arith)
            (and_right (ltb (suc j) max_places) _ (refers_moved digest s size l x t e i j (omega arith) ∙ y));
        waits = waits;
        shown = λ i h m. parts.lower i (omega (arith, t.count)) ∙ g.shown (suc i) (omega arith) m;
      }
