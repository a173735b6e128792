-- A site of a lawful setup, with its list of calls and its record buffer, keeps what specs/Promises.antt says of it. Assumes nothing; what is taken
-- as given (no collision with a retired block) stands in the promises themselves.
use mathlib.Core.Path.{◌≡◌, refl, sym, ap, ◌∙◌, subst}
use mathlib.Core.Bool.{true}
use mathlib.Core.Logic.{inl, inr}
use mathlib.Core.List.Memᴰ
use mathlib.Core.List.{List, [], Memᴰ}
use Prim.Native.Nat.{ℕ, ◌+◌, ◌*◌, ◌<◌}
use native.Mathlib.Omega.{arith}
use lib.ListN.{length, get_or, drop}
use Rattle.base.specs.Bytes.{Bytes, all_zero}
use Rattle.base.proofs.Members.{newest}
use Rattle.setup.specs.Setup.{Setup, lawful, slot_count}
use Rattle.block.specs.Limits.{reference_size}
use Rattle.table.specs.Layout.{row_start}
use Rattle.table.specs.Fresh.{empty_table, fresh_table}
use Rattle.table.specs.Promises.{Empty}
use Rattle.table.proofs.InForm.{table_form}
use Rattle.table.proofs.Promises.{promises as table_promises}
use Rattle.records.specs.Layout.{record_size, flatten, part_of}
use Rattle.records.proofs.Parts.{entry_in_lem}
use Rattle.history.specs.History.{History, node, end, slot_record, meaning}
use Rattle.history.specs.Ancestry.{history_of}
use Rattle.history.proofs.Histories.{AncestorOrSelf}
use Rattle.history.proofs.Meanings.{record_sized}
use Rattle.history.proofs.Validity.{owner_requested}
use Rattle.history.proofs.Admissions.{admitted_in, above_in as above_among}
use Rattle.history.proofs.Ancestry.{OneHistory, child_of, children_listed, above_ancestor}
use Rattle.run.specs.Ledger.{Call, Ledger, empty}
use Rattle.run.specs.Run.{Site, started}
use Rattle.run.specs.Promises.{Interpreted, delivered_entry, RetiredClear, history_at, Delivered, OwnerRequested, LedgerHistory, ledger_of, site_with, SiteKeeps, AnswersKeep}
use Rattle.run.proofs.PlaceHistories.{histories, history_in}
use Rattle.run.proofs.Runs.{RunInvariant, run_invariant, answers_invariant, answers_formed}
use Rattle.run.proofs.LedgerPlaces.{LedgerPlaces, standing, block_in, interpreted_among, one_history_each, place_history, unretired_clear}

-- entry 3 of a slot in a block's meaning
pub delivered_is : (s : Setup) (h : History) (slot : ℕ) → slot < slot_count
    → get_or (meaning s h) (record_size * slot + delivered_entry) 0 ≡ (slot_record s slot h).sent.delivered
unfolding meaning flatten
delivered_is s h slot l = entry_in_lem (λ slot. slot_record s slot h) (λ slot _. record_sized s slot h) slot delivered_entry l (omega arith)

module _ (digest : Bytes → Bytes) (sized : (b : Bytes) → length (digest b) ≡ reference_size) (s : Setup) (law : lawful s ≡ true) where
  fresh_is : (fresh_table s).table ≡ empty_table s
  unfolding fresh_table
  fresh_is = rw law

  pub start : (buffer : List ℕ) → RunInvariant digest sized s (length buffer) empty (started s buffer)
  unfolding newest
  start buffer =
      let e : Empty s (fresh_table s).table = subst (Empty s) (sym fresh_is) (table_promises.empty s law) in
      record {
        simulated = record {
          formed = e.formed;
          setup = e.setup;
          retired = e.retired;
          count = e.count;
          rows = λ i h. absurd (omega (arith, e.count));
          sized = refl;
          stand = refl;
        };
        known = record {
          history = λ i. node [] end;
          retired = [];
          blocks = λ i h. absurd (omega arith);
          retired_blocks = refl;
          in_turn = tt;
          refers = λ i j h. absurd (omega arith);
          waits = λ i h. absurd (omega arith);
          shown = λ i h. absurd (omega arith);
        };
      }

  pub run : (buffer : List ℕ) (calls : List Call) → RunInvariant digest sized s (length buffer) (ledger_of digest s buffer calls) (site_with digest s buffer calls)
  run buffer calls = run_invariant digest sized s (length buffer) empty (started s buffer) (start buffer) calls

  module _ (size : ℕ) (l : Ledger) (x : Site) (t : RunInvariant digest sized s size l x) where
    abbrev keeps : LedgerPlaces digest l x.table
    keeps = standing digest sized s size l x t

    -- the history that a place's block was admitted with is one of the ledger's blocks
    ledger_history : (i : ℕ) → i < l.held → LedgerHistory digest l (t.known.history i)
    ledger_history i h = record {
      among = λ a k. block_in digest sized s size l x t a (or_self_among a k);
      listed = λ a k. (admitted_in digest hs t.known.in_turn a (or_self_among a k)).listed;
    }
      where
        hs : List History
        hs = histories digest s l x t.known

        or_self_among : (a : History) → AncestorOrSelf a (t.known.history i) → Memᴰ a hs
        or_self_among a (inl e) = Memᴰ.cast e (history_in digest s l x t.known i h)
        or_self_among a (inr k) = above_among digest hs t.known.in_turn k (history_in digest s l x t.known i h)

    module _ (clear : RetiredClear digest l) where
      one : OneHistory digest l.blocks
      one = one_history_each digest sized s size l x t clear

      shown : (i : ℕ) → Interpreted l i → part_of x.records i ≡ meaning s (history_at digest l i)
      shown i m = t.known.shown i m.below m.mark ∙ ap (meaning s) (sym (place_history digest sized s size l x t clear i m.below))

      requested : (slot v : ℕ) → slot < slot_count → (d : Delivered digest s l slot v) → OwnerRequested digest s l d.block slot v
      requested slot v h d =
          let history : History = history_of digest l.blocks d.block in
          let r = owner_requested s slot history v d.not_zero (sym (delivered_is s history slot h) ∙ d.entry) in
          record {
            requester = _;
            ancestor = above_ancestor digest l.blocks one d.block (interpreted_among digest sized s size l x t d.block d.is_interpreted) r.above;
            by_owner = r.by_owner;
            requests = r.requests;
          }

    pub site_keeps : SiteKeeps digest s l x
    site_keeps =
        record {
          setup = t.simulated.setup;
          retired = t.simulated.retired;
          count = t.simulated.count;
          rows = λ i h. t.simulated.rows i (omega (arith, t.simulated.count));
          rest = ap (λ (k : ℕ). all_zero (drop (row_start k) x.table)) (sym t.simulated.count) ∙ (table_form x.table t.simulated.formed).zeros;
          placed = keeps.placed;
          shown = shown;
          admitted_with = λ i m. (t.known.history i, ledger_history i m.below, t.known.blocks i m.below, t.known.shown i m.below m.mark);
          listed = λ clear b m. children_listed digest l.blocks (one clear) b m;
          held = λ clear b m c k. let w = child_of digest l.blocks (one clear) b m c k in (w.among, w.is_history);
          requested = requested;
          unretired = unretired_clear digest sized s size l x t;
        }

  pub answers_keep : (buffer : List ℕ) (calls : List Call) → AnswersKeep digest s buffer calls
  answers_keep buffer calls =
      record {
        same = answers_invariant digest sized s (length buffer) empty (started s buffer) (start buffer) calls;
        formed = answers_formed digest sized s (length buffer) empty (started s buffer) (start buffer) calls;
      }
