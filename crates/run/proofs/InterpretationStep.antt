-- An interpretation that passes: the part of its place is the meaning of the place's history, and all else stays. Assumes nothing.
use mathlib.Core.Path.{◌≡◌, sym, ap, ◌∙◌}
use mathlib.Core.Bool.{Bool, cond}
use mathlib.Core.List.{List}
use Prim.Native.Nat.{ℕ, ◌+◌, ◌≤◌, ◌<◌}
use native.Mathlib.Omega.{arith}
use lib.Dec.{eqb}
use lib.ListN.{length}
use borrow.Author.Tests.{eqb-true, eqb-false}
use Rattle.base.specs.Bytes.{Bytes, splice}
use Rattle.base.proofs.Tests.{by_test}
use Rattle.base.proofs.Splice.{length_splice}
use Rattle.setup.specs.Setup.{Setup}
use Rattle.table.specs.Layout.{setup_of, view_of}
use Rattle.records.specs.Layout.{part_size, part_start, part_of}
use Rattle.records.proofs.Parts.{numbers_length, part_written, part_other}
use Rattle.interpret.specs.Interpretation.{written, interpretation}
use Rattle.interpret.proofs.Effect.{whole, low}
use Rattle.history.specs.History.{History, slot_record, meaning}
use Rattle.history.proofs.Meanings.{record_sized}
use Rattle.run.specs.Ledger.{interpret, Ledger, taken}
use Rattle.run.specs.Run.{Site}
use Rattle.run.proofs.Simulation.{Simulates}
use Rattle.run.proofs.PlaceHistories.{PlaceHistories, written_is}

meaning_length : (s : Setup) (h : History) → length (meaning s h) ≡ part_size
unfolding meaning
meaning_length s h = numbers_length (λ slot. slot_record s slot h) (λ slot l. record_sized s slot h)

module _ (digest : Bytes → Bytes) (s : Setup) (size : ℕ) (l : Ledger) (x : Site) (t : Simulates digest s size l x) (g : PlaceHistories digest s l x)
    (i : ℕ) (e : (interpretation x.table x.records i).refusal ≡ 0) where
  abbrev new : List ℕ
  new = written (setup_of x.table) (view_of x.table) x.records i

  abbrev pub records_after : List ℕ
  records_after = splice x.records (part_start i) new

  new_is : new ≡ meaning s (g.history i)
  new_is = ap (λ (z : Setup). written z (view_of x.table) x.records i) t.setup ∙ written_is digest s size l x t g i e

  new_length : length new ≡ part_size
  new_length = ap length new_is ∙ meaning_length s (g.history i)

  fits : part_start i + part_size ≤ length x.records
  fits = omega (arith, whole x.table x.records i e, low x.table x.records i e)

  pub records_sized_lem : length records_after ≡ size
  records_sized_lem = length_splice x.records (part_start i) new (omega (arith, new_length, fits)) ∙ t.sized

  still : (j : ℕ) → l.mark j ≡ 1 → cond (eqb j i) 1 (l.mark j) ≡ 1
  still j m = by_test (eqb j i) (λ y. rw y) (λ n. rw n m)

  shown : (j : ℕ) → j < l.held → cond (eqb j i) 1 (l.mark j) ≡ 1 → part_of records_after j ≡ meaning s (g.history j)
  shown j h m = by_test (eqb j i)
      (λ y. let q : j ≡ i = eqb-true j i y in
      ap (part_of records_after) q ∙ part_written x.records new i new_length fits ∙ new_is ∙ ap (λ (k : ℕ). meaning s (g.history k)) (sym q))
      (λ n. part_other x.records new i new_length fits j (eqb-false j i n) ∙ g.shown j h (sym (ap (λ (z : Bool). cond z 1 (l.mark j)) n) ∙ m))

  pub interprets : (table : Bytes) → PlaceHistories digest s (taken l (interpret i)) (record { table = table; records = records_after })
  unfolding taken
  interprets table =
      record {
        history = g.history;
        retired = g.retired;
        blocks = g.blocks;
        retired_blocks = g.retired_blocks;
        in_turn = g.in_turn;
        refers = g.refers;
        waits = λ j h n. g.waits j h (λ m. n (still j m));
        shown = shown;
      }
