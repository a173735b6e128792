-- A site's table and its ledger: as long as both are fed the same calls, they show the same and answer the same. Nothing is asked of digests,
-- and a block may have come before. Assumes nothing.
use mathlib.Core.Path.{◌≡◌, refl, sym, ap, ap₂, ◌∙◌, subst}
use mathlib.Core.Bool.{Bool, true, cond, ◌&&◌}
use mathlib.Core.Logic.{inl, inr}
use mathlib.Core.List.{List, ◌∷◌, ◌++◌}
use Prim.Native.Nat.{ℕ, suc, ◌-◌, ◌≤◌, ◌<◌}
use native.Mathlib.Nat.{eq-or-lt_of_le}
use native.Mathlib.Omega.{arith}
use lib.Dec.{eqb, ltb}
use lib.ListN.{length, drop}
use borrow.Author.Tests.{eq-eqb, ne_eqb, lt-ltb, le-ltb, ltb-true, ltb-false}
use Rattle.base.specs.Bytes.{Bytes}
use Rattle.base.proofs.Tests.{by_test, and_false}
use Rattle.base.proofs.Members.{newest, newest_same, newest_all, newest_last}
use Rattle.answer.specs.Checks.{answer_to}
use Rattle.setup.specs.Setup.{Setup}
use Rattle.block.specs.Layout.{site_of, sequence_of, request_for}
use Rattle.table.specs.View.{max_places, Row, SameRow, marked_if, SameBelow}
use Rattle.table.specs.Layout.{setup_of, retired_of, count_of, digest_at, row_at, view_of, with_mark}
use Rattle.table.specs.Writing.{without_last, moved_row, without_first}
use Rattle.table.specs.Rules.{held_in_form}
use Rattle.table.specs.Form.{in_form}
use Rattle.table.specs.Promises.{Grown, Marked, Shows}
use Rattle.table.proofs.Views.{row_trans, row_sym, held_same, held_in}
use Rattle.table.proofs.InForm.{table_form}
use Rattle.admission.specs.Admission.{lists, row_for, admission_checks, admission}
use Rattle.take_back.specs.TakingBack.{taking_back, taken_back}
use Rattle.take_back.proofs.Promises.{promises as taking_back_promises}
use Rattle.interpret.specs.Interpretation.{interpretation_checks, interpretation}
use Rattle.interpret.proofs.Effect.{is_marked, still_formed}
use Rattle.retire.specs.Retiring.{retiring_checks, retiring, retired_table, retired_records}
use Rattle.retire.proofs.Promises.{promises as retiring_promises}
use Rattle.run.specs.Ledger.{Call, admit, interpret, retire, take_back, Ledger, taken, retired_mark, view_in, ledger_answer}
use Rattle.run.specs.Run.{Site, site_answer}
use Rattle.run.proofs.SameAnswers.{admission_same, interpretation_same, retiring_same, taking_back_same}

module _ (digest : Bytes → Bytes) where
  -- the table shows what the ledger does; and the blocks that count are those at the places and the retired ones
  pub record Simulates (s : Setup) (size : ℕ) (l : Ledger) (x : Site) : Type 0 where
    pub formed : in_form x.table ≡ true
    pub setup : setup_of x.table ≡ s
    pub retired : retired_of x.table ≡ retired_mark l.retired
    pub count : count_of x.table ≡ l.held
    pub rows : SameBelow (view_of x.table) (view_in digest l) (count_of x.table)
    pub sized : length x.records ≡ size
    pub stand : l.blocks ≡ newest l.block l.held ++ l.retired

  module _ (s : Setup) (size : ℕ) (l : Ledger) (x : Site) (t : Simulates s size l x) where
    abbrev table : Bytes
    table = x.table

    pub few : count_of table ≤ max_places
    few = (table_form table t.formed).held.fits

    -- the ledger's places are in form too
    pub ledger_formed : held_in_form s (view_in digest l) ≡ true
    ledger_formed =
        sym (held_same s (view_of table) (view_in digest l) t.retired t.count t.rows few)
        ∙ rw (← t.setup) (held_in (setup_of table) (view_of table) (table_form table t.formed).held)

    abbrev both : in_form table ≡ held_in_form s (view_in digest l)
    both = t.formed ∙ sym ledger_formed

    pub answers_same : (c : Call) → site_answer digest x c ≡ ledger_answer digest s size l c
    unfolding site_answer ledger_answer admission interpretation retiring taking_back
    answers_same (admit b verdict) =
        admission_same (view_of table) (view_in digest l) t.count t.rows (in_form table) (held_in_form s (view_in digest l)) both digest b (setup_of table) verdict
        ∙ ap (λ (z : Setup). answer_to (admission_checks digest (held_in_form s (view_in digest l)) z (view_in digest l) b verdict) l.held) t.setup
    answers_same (interpret i) =
        interpretation_same (view_of table) (view_in digest l) t.count t.rows (in_form table) (held_in_form s (view_in digest l)) both few (length x.records) i
        ∙ ap (λ (n : ℕ). answer_to (interpretation_checks (held_in_form s (view_in digest l)) (view_in digest l) n i) 0) t.sized
    answers_same retire =
        retiring_same (view_of table) (view_in digest l) t.count t.rows (in_form table) (held_in_form s (view_in digest l)) both (length x.records)
        ∙ ap (λ (n : ℕ). answer_to (retiring_checks (held_in_form s (view_in digest l)) (view_in digest l) n) 0) t.sized
    answers_same take_back = taking_back_same (view_of table) (view_in digest l) t.count t.rows (in_form table) (held_in_form s (view_in digest l)) both

    -- ---- an admission that passes

    module _ (b : Bytes) (verdict : ℕ) where
      abbrev pub after : Ledger
      after = taken l (admit b verdict)

      pub block_old : (i : ℕ) → i < l.held → after.block i ≡ l.block i
      unfolding taken
      block_old i h = rw (ne_eqb i l.held (λ e. absurd (omega arith)))

      pub block_new : after.block l.held ≡ b
      unfolding taken
      block_new = rw (eq-eqb l.held l.held refl)

      pub mark_old : (i : ℕ) → i < l.held → after.mark i ≡ l.mark i
      unfolding taken
      mark_old i h = rw (ne_eqb i l.held (λ e. absurd (omega arith)))

      pub mark_new : after.mark l.held ≡ 0
      unfolding taken
      mark_new = rw (eq-eqb l.held l.held refl)

      -- a place refers to lower places, and those stay
      pub refers_old : (a : Bytes) (i j : ℕ) → i ≤ l.held → (ltb j i && lists a (digest (l.block j))) ≡ (ltb j i && lists a (digest (after.block j)))
      refers_old a i j h = by_test (ltb j i)
          (λ y. ap (λ (c : Bytes). ltb j i && lists a (digest c)) (sym (block_old j (omega (arith, ltb-true j i y)))))
          (λ n. rw n)

      old_row : (i : ℕ) → i < l.held → SameRow ((view_in digest l).row i) ((view_in digest after).row i)
      old_row i h =
          let q : after.block i ≡ l.block i = block_old i h in
          record {
            digest = ap digest (sym q);
            site = ap site_of (sym q);
            sequence = ap sequence_of (sym q);
            refers_to = λ j k. refers_old (l.block i) i j (omega arith) ∙ ap (λ (c : Bytes). ltb j i && lists c (digest (after.block j))) (sym q);
            request = λ slot k. ap (λ (a : Bytes). request_for a slot) (sym q);
            mark = sym (mark_old i h);
          }

      -- what the row shows of the places is what the ledger does
      refers_is : (j : ℕ) → (ltb j (count_of table) && lists b (digest_at table j)) ≡ (ltb j l.held && lists b (digest (l.block j)))
      refers_is j = by_test (ltb j (count_of table))
          (λ y. ap₂ (λ (k : ℕ) (d : Bytes). ltb j k && lists b d) t.count (t.rows j (ltb-true j (count_of table) y)).digest)
          (λ z. rw (← t.count, z))

      new_row : SameRow (row_for digest (view_of table) b) ((view_in digest after).row l.held)
      new_row =
          let q : after.block l.held ≡ b = block_new in
          record {
            digest = ap digest (sym q);
            site = ap site_of (sym q);
            sequence = ap sequence_of (sym q);
            refers_to = λ j k. refers_is j ∙ refers_old b l.held j (omega arith) ∙ ap (λ (c : Bytes). ltb j l.held && lists c (digest (after.block j))) (sym q);
            request = λ slot k. ap (λ (c : Bytes). request_for c slot) (sym q);
            mark = sym mark_new;
          }

      module _ (t' : Bytes) (g : Grown table t' (row_for digest (view_of table) b)) (f : in_form t' ≡ true) where
        rows_after : SameBelow (view_of t') (view_in digest after) (count_of t')
        rows_after i h = let le : i ≤ count_of table = omega (arith, g.count) in elim (eq-or-lt_of_le le) [
          | inl q ↦ subst (λ (k : ℕ). SameRow (row_at t' k) ((view_in digest after).row k)) (sym q)
              (row_trans (row_at t' (count_of table)) (row_for digest (view_of table) b) ((view_in digest after).row (count_of table)) g.here
              (subst (λ (k : ℕ). SameRow (row_for digest (view_of table) b) ((view_in digest after).row k)) (sym t.count) new_row))
          | inr k ↦ row_trans (row_at t' i) (row_at table i) ((view_in digest after).row i) (row_sym (row_at table i) (row_at t' i) (g.below i k))
              (row_trans (row_at table i) ((view_in digest l).row i) ((view_in digest after).row i) (t.rows i k) (old_row i (omega (arith, t.count))))
        ]

        blocks_after : after.blocks ≡ newest after.block after.held ++ after.retired
        unfolding taken newest
        blocks_after =
            ap₂ (λ (c : Bytes) (bs : List Bytes). c ∷ bs) (sym block_new)
            (t.stand ∙ ap (λ (bs : List Bytes). bs ++ l.retired) (sym (newest_same after.block l.block l.held block_old)))

        pub admitted_simulated : Simulates s size after (record { table = t'; records = x.records })
        unfolding taken
        admitted_simulated =
            record {
              formed = f;
              setup = g.setup ∙ t.setup;
              retired = g.retired ∙ t.retired;
              count = g.count ∙ ap suc t.count;
              rows = rows_after;
              sized = t.sized;
              stand = blocks_after;
            }

    -- ---- an interpretation that passes

    marked_same : (test : Bool) (r q : Row) → SameRow r q → SameRow (marked_if test r) (marked_if test q)
    marked_same test r q e =
        record {
          digest = e.digest;
          site = e.site;
          sequence = e.sequence;
          refers_to = e.refers_to;
          request = e.request;
          mark = ap (λ (m : ℕ). cond test 1 m) e.mark;
        }

    module _ (i : ℕ) (e : (interpretation table x.records i).refusal ≡ 0) where
      set : Marked table (with_mark table i) i
      set = is_marked table x.records i e

      marks_after : SameBelow (view_of (with_mark table i)) (view_in digest (taken l (interpret i))) (count_of (with_mark table i))
      unfolding taken
      marks_after j h =
          row_trans (row_at (with_mark table i) j) (marked_if (eqb j i) (row_at table j)) ((view_in digest (taken l (interpret i))).row j) (set.rows j)
          (marked_same (eqb j i) (row_at table j) ((view_in digest l).row j) (t.rows j (omega (arith, set.count))))

      pub interpreted_simulated : (records : List ℕ) → length records ≡ size → Simulates s size (taken l (interpret i)) (record { table = with_mark table i; records = records })
      unfolding taken
      interpreted_simulated records n =
          record {
            formed = still_formed table x.records i e;
            setup = set.setup ∙ t.setup;
            retired = set.retired ∙ t.retired;
            count = set.count ∙ t.count;
            rows = marks_after;
            sized = n;
            stand = t.stand;
          }

    -- ---- a retiring that passes

    module _ (e : (retiring table x.records).refusal ≡ 0) where
      abbrev left : Bytes
      left = retired_table table x.records

      shows : Shows (setup_of table) (without_first (view_of table)) left
      shows = retiring_promises.shown table x.records e

      pub some_held : 0 < l.held
      some_held = omega (arith, ((retiring_promises.causes table x.records).none.0 e).0.below, t.count)

      -- a place refers to the same blocks as before, but for the one that left
      pub refers_moved : (i j : ℕ) → suc i < l.held
          → (ltb (suc j) max_places && ((view_in digest l).row (suc i)).refers_to (suc j)) ≡ ((view_in digest (taken l retire)).row i).refers_to j
      unfolding taken
      refers_moved i j h = by_test (ltb j i)
          (λ y. let k : j < i = ltb-true j i y in rw (y, lt-ltb (suc j) (suc i) (omega arith), lt-ltb (suc j) max_places (omega (arith, few, t.count))))
          (λ n. let k : i ≤ j = ltb-false j i n in rw (n, le-ltb (suc j) (suc i) (omega arith), and_false (ltb (suc j) max_places)))

      moved_row_lem : (i : ℕ) → suc i < l.held → SameRow (moved_row (row_at table (suc i))) ((view_in digest (taken l retire)).row i)
      unfolding taken
      moved_row_lem i h =
          let r = t.rows (suc i) (omega (arith, t.count)) in
          record {
            digest = r.digest;
            site = r.site;
            sequence = r.sequence;
            refers_to = λ j k. by_test (ltb (suc j) max_places)
                (λ y. ap (λ (z : Bool). ltb (suc j) max_places && z) (r.refers_to (suc j) (ltb-true (suc j) max_places y)) ∙ refers_moved i j h)
                (λ n. rw n (sym (rw n at (sym (refers_moved i j h)))));
            request = r.request;
            mark = r.mark;
          }

      rows_left_lem : SameBelow (view_of left) (view_in digest (taken l retire)) (count_of left)
      rows_left_lem i h =
          let k : i < count_of table - 1 = omega (arith, shows.count) in
          row_trans (row_at left i) (moved_row (row_at table (suc i))) ((view_in digest (taken l retire)).row i) (shows.rows i k) (moved_row_lem i (omega (arith, t.count)))

      blocks_left : (taken l retire).blocks ≡ newest (taken l retire).block (taken l retire).held ++ (taken l retire).retired
      unfolding taken
      blocks_left = t.stand ∙ newest_all l.block l.held l.retired some_held

      pub retired_simulated : Simulates s size (taken l retire) (record { table = left; records = retired_records table x.records })
      unfolding taken
      retired_simulated =
          record {
            formed = retiring_promises.kept table x.records t.formed;
            setup = shows.setup ∙ t.setup;
            retired = shows.retired;
            count = shows.count ∙ ap (λ (k : ℕ). k - 1) t.count;
            rows = rows_left_lem;
            sized = retiring_promises.sized table x.records ∙ t.sized;
            stand = blocks_left;
          }

    -- ---- a taking back that passes

    module _ (e : (taking_back table).refusal ≡ 0) where
      shows_before : Shows (setup_of table) (without_last (view_of table)) (taken_back table)
      shows_before = taking_back_promises.shown table e

      pub one_held : 0 < l.held
      one_held = omega (arith, ((taking_back_promises.causes table).none.0 e).0.some, t.count)

      rows_before : SameBelow (view_of (taken_back table)) (view_in digest (taken l take_back)) (count_of (taken_back table))
      unfolding taken
      rows_before i h =
          let k : i < count_of table - 1 = omega (arith, shows_before.count) in
          row_trans (row_at (taken_back table) i) (row_at table i) ((view_in digest l).row i) (shows_before.rows i k) (t.rows i (omega arith))

      blocks_before : (taken l take_back).blocks ≡ newest l.block (l.held - 1) ++ l.retired
      unfolding taken
      blocks_before = ap (drop 1) (t.stand ∙ ap (λ (bs : List Bytes). bs ++ l.retired) (newest_last l.block l.held one_held))

      pub taken_back_simulated : Simulates s size (taken l take_back) (record { table = taken_back table; records = x.records })
      unfolding taken
      taken_back_simulated =
          record {
            formed = taking_back_promises.kept table t.formed;
            setup = shows_before.setup ∙ t.setup;
            retired = shows_before.retired ∙ t.retired;
            count = shows_before.count ∙ ap (λ (k : ℕ). k - 1) t.count;
            rows = rows_before;
            sized = t.sized;
            stand = blocks_before;
          }
