-- Every table in form whose rows stand as their bytes and show blocks that the reader accepts is reached by calls, from any record buffer of
-- the right length: admissions of its blocks in place order, then interpretations of its marked places in place order. Where the parts of the
-- marked places are what interpreting them would write, the calls leave these parts, and the rest of the buffer as it was. Assumes nothing.
use mathlib.Core.Path.{◌≡◌, refl, sym, ap, ap₂, ◌∙◌, subst}
use mathlib.Core.Bool.{Bool, true, false, cond, ◌&&◌}
use mathlib.Core.Logic.{◌⊎◌, ◌≢◌, inl, inr}
use mathlib.Core.List.Memᴰ
use mathlib.Core.List.{List, [], ◌∷◌, ◌++◌, append-nil, append_assoc, Memᴰ}
use Prim.Native.Nat.{ℕ, zero, suc, ◌+◌, ◌≤◌, ◌<◌}
use native.Mathlib.Nat.{eq-or-lt_of_le, le_of_suc-le-suc}
use native.Mathlib.Omega.{arith}
use lib.Dec.{eqb, ltb}
use lib.ListN.{length, drop, length-drop}
use lib.Seq.{length-take-le}
use borrow.Author.Tests.{eq-eqb, eqb-true, eqb-false, lt-ltb, le-ltb, ltb-true, ltb-false}
use Rattle.base.specs.Bytes.{Bytes, splice}
use Rattle.base.proofs.Members.{member_behind}
use Rattle.base.proofs.Tests.{by_test, true_not_false, not_true_false}
use Rattle.base.proofs.Splice.{length_splice}
use Rattle.setup.specs.Setup.{Setup, lawful}
use Rattle.block.specs.Limits.{reference_size}
use Rattle.block.specs.Reading.{fields_of}
use Rattle.block.specs.Promises.{Shaped}
use Rattle.block.proofs.Acceptance.{reading_accepted}
use Rattle.table.specs.View.{max_places, Row, interpreted, View, SameRow}
use Rattle.table.specs.Layout.{setup_of, retired_of, count_of, digest_at, mark_at, row_at, view_of, with_mark}
use Rattle.table.specs.Rules.{parents, parent_rule}
use Rattle.table.specs.Form.{in_form}
use Rattle.table.specs.Promises.{Grown, Marked}
use Rattle.table.proofs.Views.{row_sym, row_trans, rule_reads, RowForm}
use Rattle.table.proofs.InForm.{table_form, formed_row, formed_parent}
use Rattle.table.proofs.Canonical.{Canonical, tables_equal}
use Rattle.records.specs.Layout.{part_size, buffer_size, part_start, part_of}
use Rattle.records.proofs.Parts.{part_written, part_other}
use Rattle.admission.specs.Admission.{lists, row_for, admission, admitted}
use Rattle.admission.specs.Promises.{DigestHeld, ReferenceMissing, ParentRule, Parented}
use Rattle.admission.proofs.Promises.{promises}
use Rattle.admission.proofs.ReferenceList.{reference_has, member_lists}
use Rattle.interpret.specs.Interpretation.{written, interpretation}
use Rattle.interpret.specs.Promises.{Unready}
use Rattle.interpret.proofs.Causes.{causes}
use Rattle.interpret.proofs.Relocation.{written_kept}
use Rattle.interpret.proofs.Effect.{is_marked, marked_passed, recorded_passed}
use Rattle.run.specs.Ledger.{Call, admit, interpret, retire, take_back, Ledger, empty, taken, retired_mark, ledger_answer, ledger_step, ledger_after}
use Rattle.run.specs.Run.{Site, started, site_step, site_after}
use Rattle.run.specs.Promises.{ledger_of, site_with}
use Rattle.run.proofs.Simulation.{Simulates}
use Rattle.run.proofs.Runs.{after_append}
use Rattle.run.proofs.Growth.{is_retiring, after_plain}
use Rattle.run.proofs.Promises.{run}
use Rattle.run.proofs.SiteInvariant.{Fixed, reached, Rows}

-- a row with another mark
abbrev with_mark_of : ℕ → Row → Row
with_mark_of m r = record { digest = r.digest; site = r.site; sequence = r.sequence; refers_to = r.refers_to; request = r.request; mark = m }

-- what the parent rule reads has no mark
abbrev unmarked : Bytes → View
unmarked t = record { retired = retired_of t; held = count_of t; row = λ p. with_mark_of 0 (row_at t p) }

rule_unmarked : (t : Bytes) (k : ℕ) (r : Row) → parent_rule (unmarked t) k r ≡ parent_rule (view_of t) k r
unfolding parent_rule parents
rule_unmarked t k r = refl

-- admissions of the blocks of the first k places, and interpretations of the marked ones among them
unfoldable pub admitting : (ℕ → Bytes) → ℕ → List Call
admitting block zero = []
admitting block (suc k) = admitting block k ++ (admit (block k) 1 ∷ [])

unfoldable pub interpreting : Bytes → ℕ → List Call
interpreting t zero = []
interpreting t (suc k) = interpreting t k ++ cond (interpreted (row_at t k)) (interpret k ∷ []) []

-- a buffer with the parts of the marked places below k from another
unfoldable pub restored : Bytes → List ℕ → List ℕ → ℕ → List ℕ
restored t records buffer zero = buffer
restored t records buffer (suc k) =
    cond (interpreted (row_at t k)) (splice (restored t records buffer k) (part_start k) (part_of records k)) (restored t records buffer k)

-- ---- a ledger's blocks come from its admissions

module _ (digest : Bytes → Bytes) (s : Setup) (size : ℕ) where
  step_blocks : (l : Ledger) (c : Call) (b : Bytes) → Memᴰ b (ledger_step digest s size l c).blocks → Memᴰ b l.blocks ⊎ ((verdict : ℕ) × (c ≡ admit b verdict))
  unfolding ledger_step taken
  step_blocks l (admit a verdict) b k = by_test (eqb (ledger_answer digest s size l (admit a verdict)).refusal 0)
      (λ y. elim (Memᴰ.cases_cons (rw y at k)) [ inl e ↦ inr (verdict, ap (λ (x : Bytes). admit x verdict) (sym e)) | inr o ↦ inl o ])
      (λ z. inl (rw z at k))
  step_blocks l (interpret i) b k = by_test (eqb (ledger_answer digest s size l (interpret i)).refusal 0)
      (λ y. inl (rw y at k))
      (λ z. inl (rw z at k))
  step_blocks l retire b k = by_test (eqb (ledger_answer digest s size l retire).refusal 0)
      (λ y. inl (rw y at k))
      (λ z. inl (rw z at k))
  step_blocks l take_back b k = by_test (eqb (ledger_answer digest s size l take_back).refusal 0)
      (λ y. inl (member_behind l.blocks b (rw y at k)))
      (λ z. inl (rw z at k))

  after_blocks : (l : Ledger) (cs : List Call) (b : Bytes) → Memᴰ b (ledger_after digest s size l cs).blocks
      → Memᴰ b l.blocks ⊎ ((verdict : ℕ) × Memᴰ (admit b verdict) cs)
  unfolding ledger_after
  after_blocks l [] b k = inl k
  after_blocks l (c ∷ cs) b k = elim (after_blocks (ledger_step digest s size l c) cs b k) [
    | inl o ↦ elim (step_blocks l c b o) [ inl x ↦ inl x | inr x ↦ inr (x.0, Memᴰ.head (sym x.1)) ]
    | inr o ↦ inr (o.0, Memᴰ.tail o.1)
  ]

-- ---- what is admitted by these calls

abbrev is_admission : Call → Bool
is_admission (admit b verdict) = true
is_admission (interpret i) = false
is_admission retire = false
is_admission take_back = false

abbrev bytes_of : Call → Bytes
bytes_of (admit b verdict) = b
bytes_of (interpret i) = []
bytes_of retire = []
bytes_of take_back = []

admitting_from : (block : ℕ → Bytes) (k : ℕ) (b : Bytes) (verdict : ℕ) → Memᴰ (admit b verdict) (admitting block k) → (i : ℕ) × (i < k) × (b ≡ block i)
unfolding admitting
admitting_from block zero b verdict m = absurd (Memᴰ.not-nil m)
admitting_from block (suc k) b verdict m = elim (Memᴰ.append_cases (admitting block k) m) [
  | inl o ↦ let w = admitting_from block k b verdict o in (w.0, omega (arith, w.1), w.2)
  | inr o ↦ (k, omega arith, ap bytes_of (Memᴰ.eq_of_singleton o))
]

interpreting_none : (t : Bytes) (k : ℕ) (b : Bytes) (verdict : ℕ) → Memᴰ (admit b verdict) (interpreting t k) → ⊥
unfolding interpreting
interpreting_none t zero b verdict m = Memᴰ.not-nil m
interpreting_none t (suc k) b verdict m = elim (Memᴰ.append_cases (interpreting t k) m) [
  | inl o ↦ interpreting_none t k b verdict o
  | inr o ↦ last (interpreted (row_at t k)) o
]
  where
    last : (z : Bool) → Memᴰ (admit b verdict) (cond z (interpret k ∷ []) []) → ⊥
    last true o = true_not_false refl (ap is_admission (Memᴰ.eq_of_singleton o))
    last false o = Memᴰ.not-nil o

-- none of them is a retiring

admitting_plain : (block : ℕ → Bytes) (k : ℕ) (c : Call) → Memᴰ c (admitting block k) → is_retiring c ≡ false
unfolding admitting
admitting_plain block zero c m = absurd (Memᴰ.not-nil m)
admitting_plain block (suc k) c m = elim (Memᴰ.append_cases (admitting block k) m) [
  | inl o ↦ admitting_plain block k c o
  | inr o ↦ ap is_retiring (Memᴰ.eq_of_singleton o)
]

interpreting_plain : (t : Bytes) (k : ℕ) (c : Call) → Memᴰ c (interpreting t k) → is_retiring c ≡ false
unfolding interpreting
interpreting_plain t zero c m = absurd (Memᴰ.not-nil m)
interpreting_plain t (suc k) c m = elim (Memᴰ.append_cases (interpreting t k) m) [
  | inl o ↦ interpreting_plain t k c o
  | inr o ↦ last (interpreted (row_at t k)) o
]
  where
    last : (z : Bool) → Memᴰ c (cond z (interpret k ∷ []) []) → is_retiring c ≡ false
    last true o = ap is_retiring (Memᴰ.eq_of_singleton o)
    last false o = absurd (Memᴰ.not-nil o)

module _ (digest : Bytes → Bytes) (sized : (b : Bytes) → length (digest b) ≡ reference_size) (s : Setup) (law : lawful s ≡ true)
    (t : Bytes) (f : in_form t ≡ true) (unretired : retired_of t ≡ 0) (set : setup_of t ≡ s) (block : ℕ → Bytes) (rows : Rows digest t block) (buffer : List ℕ) where
  abbrev n : ℕ
  n = count_of t

  few : n ≤ max_places
  few = (table_form t f).held.fits

  -- ---- admissions

  abbrev admitted_to : ℕ → Site
  admitted_to k = site_with digest s buffer (admitting block k)

  record Admitting (k : ℕ) (x : Site) : Type 0 where
    count : count_of x.table ≡ k
    same : (p : ℕ) → p < k → SameRow (row_at x.table p) (with_mark_of 0 (row_at t p))
    records : x.records ≡ buffer

  module _ (k : ℕ) (here : k < n) (x : Site) (formed : in_form x.table ≡ true) (setup : setup_of x.table ≡ s) (a : Admitting k x) where
    abbrev u : Bytes
    u = x.table

    abbrev b : Bytes
    b = block k

    row : RowForm (setup_of t) (view_of t) k
    row = formed_row t f k here

    shape : Shaped b
    shape = (reading_accepted b (fields_of b) (rows.accepted k here)).accepted.shape

    new : DigestHeld u (digest b) → ⊥
    new (place, (h, e)) =
        let l : place < k = omega (arith, a.count) in
        row.new place l (sym (a.same place l).digest ∙ e ∙ sym (rows.digests k here))

    found : ReferenceMissing u b → ⊥
    found (i, (h, none)) =
        let m = reference_has b shape i h in
        let q = rows.linked k here _ m in
        let y : (row_at t k).refers_to q.0 ≡ true = rows.refers k q.0 here q.1 ∙ ap (lists b) q.2 ∙ member_lists b shape _ m in
        let l : q.0 < k = row.lower q.0 (omega (arith, few, q.1)) y in
        none (q.0, (omega (arith, a.count), (a.same q.0 l).digest ∙ q.2))

    refers_is : (j : ℕ) → j < k → (ltb j (count_of u) && lists b (digest_at u j)) ≡ (row_at t k).refers_to j
    refers_is j l = rw (lt-ltb j (count_of u) (omega (arith, a.count)), (a.same j l).digest) (sym (rows.refers k j here (omega arith)))

    parent : ParentRule digest u b
    parent =
        ap (λ (m : ℕ). parent_rule (view_of u) m (row_for digest (view_of u) b)) a.count
        ∙ rule_reads (view_of u) (unmarked t) k (row_for digest (view_of u) b) (row_at t k) a.same (sym (rows.sites k here)) (sym (rows.sequences k here)) refers_is
        ∙ rule_unmarked t k (row_at t k) ∙ formed_parent t f unretired k here

    parented : Parented digest u b 1
    parented =
        record {
          linked = record {
            is_new = record {
              readable = record {
                formed = formed;
                site = omega (arith, row.site, rows.sites k here, ap (λ (z : Setup). z.sites) set, ap (λ (z : Setup). z.sites) setup);
                link = refl;
                accepted = rows.accepted k here;
              };
              new = new;
            };
            found = found;
          };
          parent = parent;
        }

    passes : (admission digest u b 1).refusal ≡ 0
    passes = ((promises digest sized).causes u b 1).none.1 (parented, omega (arith, a.count, few))

    g : Grown u (admitted digest u b 1) (row_for digest (view_of u) b)
    g = (promises digest sized).shown u b 1 passes

    refers_all : (j : ℕ) → j < max_places → (ltb j (count_of u) && lists b (digest_at u j)) ≡ (row_at t k).refers_to j
    refers_all j h = by_test (ltb j k)
        (λ y. refers_is j (ltb-true j k y))
        (λ z. rw (a.count, z) (sym (not_true_false _ (λ y. absurd (omega (arith, row.lower j h y, ltb-false j k z))))))

    new_row : SameRow (row_for digest (view_of u) b) (with_mark_of 0 (row_at t k))
    new_row =
        record {
          digest = sym (rows.digests k here);
          site = sym (rows.sites k here);
          sequence = sym (rows.sequences k here);
          refers_to = refers_all;
          request = λ slot h. sym (rows.requests k here slot h);
          mark = refl;
        }

    admitted_next : Admitting (suc k) (site_step digest x (admit b 1))
    unfolding site_step
    admitted_next =
        record {
          count = g.count ∙ ap suc a.count;
          same = λ p h. elim (eq-or-lt_of_le (le_of_suc-le-suc h)) [
            | inl q ↦ subst (λ (m : ℕ). SameRow (row_at (admitted digest u b 1) m) (with_mark_of 0 (row_at t m))) (sym q)
                (row_trans (row_at (admitted digest u b 1) k) (row_for digest (view_of u) b) (with_mark_of 0 (row_at t k))
                (subst (λ (m : ℕ). SameRow (row_at (admitted digest u b 1) m) (row_for digest (view_of u) b)) a.count g.here) new_row)
            | inr l ↦ row_trans (row_at (admitted digest u b 1) p) (row_at u p) (with_mark_of 0 (row_at t p))
                (row_sym (row_at u p) (row_at (admitted digest u b 1) p) (g.below p (omega (arith, a.count)))) (a.same p l)
          ];
          records = a.records;
        }

  ties : (calls : List Call) → Simulates digest s (length buffer) (ledger_of digest s buffer calls) (site_with digest s buffer calls)
  ties calls = (run digest sized s law buffer calls).simulated

  admitting_all : (k : ℕ) → k ≤ n → Admitting k (admitted_to k)
  unfolding admitting site_after ledger_after
  admitting_all zero h =
      record {
        count = (ties []).count;
        same = λ p l. absurd (omega arith);
        records = refl;
      }
  admitting_all (suc k) h =
      let simulated = ties (admitting block k) in
      subst (Admitting (suc k)) (sym (after_append digest (started s buffer) (admitting block k) (admit (block k) 1 ∷ [])))
      (admitted_next k h (admitted_to k) simulated.formed simulated.setup (admitting_all k (omega arith)))

  -- ---- interpretations

  module _ (all : Canonical t) (records : List ℕ) (fixed : Fixed s t records) (fits : length records ≡ buffer_size) (whole : length buffer ≡ buffer_size) where
    abbrev restored_to : ℕ → List ℕ
    restored_to k = restored t records buffer k

    part_length : (k : ℕ) → k < n → length (part_of records k) ≡ part_size
    part_length k h = length-take-le part_size (drop (part_start k) records) (omega (arith, length-drop (part_start k) records, few))

    restored_length : (k : ℕ) → k ≤ n → length (restored_to k) ≡ buffer_size
    unfolding restored
    restored_length zero h = whole
    restored_length (suc k) h =
        let e : length (restored_to k) ≡ buffer_size = restored_length k (omega arith) in
        by_test (interpreted (row_at t k))
        (λ y. rw y (length_splice (restored_to k) (part_start k) (part_of records k) (omega (arith, part_length k h, few)) ∙ e))
        (λ z. rw z e)

    restored_part : (k : ℕ) → k ≤ n → (p : ℕ) → p < k → mark_at t p ≡ 1 → part_of (restored_to k) p ≡ part_of records p
    unfolding restored
    restored_part zero h p l m = absurd (omega arith)
    restored_part (suc k) h p l m = by_test (interpreted (row_at t k))
        (λ y. rw y (by_test (eqb p k)
        (λ q. let e : p ≡ k = eqb-true p k q in ap (part_of (splice (restored_to k) (part_start k) (part_of records k))) e
        ∙ part_written (restored_to k) (part_of records k) k (part_length k h) (room k h) ∙ ap (part_of records) (sym e))
        (λ q. part_other (restored_to k) (part_of records k) k (part_length k h) (room k h) p (eqb-false p k q) ∙ restored_part k (omega arith) p (omega (arith, eqb-false p k q)) m)))
        (λ z. rw z (restored_part k (omega arith) p (omega (arith, other z)) m))
      where
        room : (k : ℕ) → k < n → part_start k + part_size ≤ length (restored_to k)
        room k h = omega (arith, restored_length k (omega arith), few)

        other : interpreted (row_at t k) ≡ false → p ≢ k
        other z e = eqb-false (mark_at t k) 1 z (ap (mark_at t) (sym e) ∙ m)

    abbrev calls_to : ℕ → List Call
    calls_to k = admitting block n ++ interpreting t k

    calls_plain : (k : ℕ) (c : Call) → Memᴰ c (calls_to k) → is_retiring c ≡ false
    calls_plain k c m = elim (Memᴰ.append_cases (admitting block n) m) [ inl o ↦ admitting_plain block n c o | inr o ↦ interpreting_plain t k c o ]

    record Interpreting (k : ℕ) (x : Site) : Type 0 where
      count : count_of x.table ≡ n
      same : (p : ℕ) → p < n → SameRow (row_at x.table p) (with_mark_of (cond (ltb p k) (mark_at t p) 0) (row_at t p))
      is : x.records ≡ restored_to k

    module _ (k : ℕ) (here : k < n) (x : Site) (formed : in_form x.table ≡ true) (setup : setup_of x.table ≡ s) (a : Interpreting k x) where
      abbrev w : Bytes
      w = x.table

      row_t : RowForm (setup_of t) (view_of t) k
      row_t = formed_row t f k here

      -- the marks of the lower places are there, that of this one is not
      mark_low : (j : ℕ) → j < k → mark_at w j ≡ mark_at t j
      mark_low j h = (a.same j (omega arith)).mark ∙ rw (lt-ltb j k h)

      mark_here : mark_at w k ≡ 0
      mark_here = (a.same k here).mark ∙ rw (le-ltb k k (omega arith))

      module _ (m : mark_at t k ≡ 1) where
        not_ready : ((j : ℕ) × Unready w k j) → ⊥
        not_ready (j, q) = q.unmarked (mark_low j q.lower ∙ row_t.closed m j q.lower (sym ((a.same k here).refers_to j (omega (arith, few, q.lower))) ∙ q.refers))

        goes : (interpretation w x.records k).refusal ≡ 0
        goes = (causes w x.records k).none.1 (
          record {
            place_held = record {
              records_sized = record { formed = formed; size = ap length a.is ∙ restored_length k (omega arith) };
              below = omega (arith, a.count);
            };
            unmarked = λ e. omega (arith, mark_here);
          },
          not_ready,
        )

        set_mark : Marked w (with_mark w k) k
        set_mark = is_marked w x.records k goes

        -- what is written is the place's part
        writes : written (setup_of w) (view_of w) x.records k ≡ part_of records k
        writes =
            ap (λ (z : Setup). written z (view_of w) x.records k) setup
            ∙ sym (written_kept s t w records x.records k (omega (arith, few)) (formed_parent t f unretired k here) (sym (a.same k here).site) (sym (a.same k here).sequence)
            (λ slot h. sym ((a.same k here).request slot h)) (λ j h. sym ((a.same k here).refers_to j (omega (arith, few))))
            (λ j h y. let e = a.same j (omega arith) in
            (sym e.site, sym e.sequence, sym (ap (λ (b : List ℕ). part_of b j) a.is ∙ restored_part k (omega arith) j h (row_t.closed m j h y)))))
            ∙ sym (fixed k here m)

        mark_is : (p : ℕ) → p < n → cond (eqb p k) 1 (mark_at w p) ≡ cond (ltb p (suc k)) (mark_at t p) 0
        mark_is p h = by_test (eqb p k)
            (λ y. let e : p ≡ k = eqb-true p k y in rw (y, lt-ltb p (suc k) (omega arith), e, m))
            (λ z. by_test (ltb p k)
            (λ y. rw (z, lt-ltb p (suc k) (omega (arith, ltb-true p k y))) (mark_low p (ltb-true p k y)))
            (λ o. rw (z, le-ltb p (suc k) (omega (arith, ltb-false p k o, eqb-false p k z))) ((a.same p h).mark ∙ rw o)))

        abbrev after : Site
        after = record { table = with_mark w k; records = splice x.records (part_start k) (written (setup_of w) (view_of w) x.records k) }

        after_is : site_step digest x (interpret k) ≡ after
        unfolding site_step
        after_is = λ i. record { table = marked_passed w x.records k goes i; records = recorded_passed w x.records k goes i }

        marked_row : (p : ℕ) → p < n → SameRow (row_at (with_mark w k) p) (with_mark_of (cond (ltb p (suc k)) (mark_at t p) 0) (row_at t p))
        marked_row p h =
            let r = set_mark.rows p in
            let q = a.same p h in
            record {
              digest = r.digest ∙ q.digest;
              site = r.site ∙ q.site;
              sequence = r.sequence ∙ q.sequence;
              refers_to = λ j l. r.refers_to j l ∙ q.refers_to j l;
              request = λ slot l. r.request slot l ∙ q.request slot l;
              mark = r.mark ∙ mark_is p h;
            }

        interpreted_next : Interpreting (suc k) (site_step digest x (interpret k))
        unfolding restored
        interpreted_next = subst (Interpreting (suc k)) (sym after_is) (record {
          count = set_mark.count ∙ a.count;
          same = marked_row;
          is = rw (eq-eqb (mark_at t k) 1 m) (ap₂ (λ (b c : List ℕ). splice b (part_start k) c) a.is writes);
        })

      -- a place that is not marked is passed over
      passed_over : interpreted (row_at t k) ≡ false → Interpreting (suc k) x
      unfolding restored
      passed_over z =
          record {
            count = a.count;
            same = λ p h. let q = a.same p h in record {
              digest = q.digest;
              site = q.site;
              sequence = q.sequence;
              refers_to = q.refers_to;
              request = q.request;
              mark = q.mark ∙ mark_is p;
            };
            is = rw z a.is;
          }
        where
          mark_is : (p : ℕ) → cond (ltb p k) (mark_at t p) 0 ≡ cond (ltb p (suc k)) (mark_at t p) 0
          mark_is p = by_test (ltb p k)
              (λ y. rw (y, lt-ltb p (suc k) (omega (arith, ltb-true p k y))))
              (λ o. by_test (eqb p k)
              (λ y. let e : p ≡ k = eqb-true p k y in
              let v : mark_at t p ≡ 0 = ap (mark_at t) e ∙ omega (arith, row_t.mark, eqb-false (mark_at t k) 1 z) in
              rw (o, lt-ltb p (suc k) (omega arith)) (sym v))
              (λ y. rw (o, le-ltb p (suc k) (omega (arith, ltb-false p k o, eqb-false p k y)))))

    abbrev interpreted_to : ℕ → Site
    interpreted_to k = site_with digest s buffer (calls_to k)

    interpreting_all : (k : ℕ) → k ≤ n → Interpreting k (interpreted_to k)
    unfolding interpreting site_after restored
    interpreting_all zero h =
        let a = admitting_all n (omega arith) in
        subst (Interpreting 0) (sym (ap (site_with digest s buffer) (append-nil (admitting block n)))) (record {
          count = a.count;
          same = λ p l. rw (le-ltb p 0 (omega arith)) (a.same p l);
          is = a.records;
        })
    interpreting_all (suc k) h =
        let simulated = ties (calls_to k) in
        let a = interpreting_all k (omega arith) in
        by_test (interpreted (row_at t k))
        (λ y. subst (Interpreting (suc k))
        (sym (ap (site_with digest s buffer) (ap (λ (cs : List Call). admitting block n ++ (interpreting t k ++ cs)) (ap (λ (z : Bool). cond z (interpret k ∷ []) []) y)
        ∙ sym (append_assoc (admitting block n) (interpreting t k) (interpret k ∷ []))) ∙ after_append digest (started s buffer) (calls_to k) (interpret k ∷ [])))
        (interpreted_next k h (interpreted_to k) simulated.formed simulated.setup a (eqb-true (mark_at t k) 1 y)))
        (λ z. subst (Interpreting (suc k))
        (sym (ap (site_with digest s buffer) (ap (λ (cs : List Call). admitting block n ++ (interpreting t k ++ cs)) (ap (λ (z : Bool). cond z (interpret k ∷ []) []) z)
        ∙ ap (λ (cs : List Call). admitting block n ++ cs) (append-nil (interpreting t k)))))
        (passed_over k h (interpreted_to k) simulated.formed simulated.setup a z))

    -- the calls
    abbrev pub calls_of : List Call
    calls_of = admitting block n ++ interpreting t n

    table_is : (interpreted_to n).table ≡ t
    table_is =
        let r = reached digest sized s law buffer (calls_to n) (after_plain digest s (length buffer) empty (calls_to n) (calls_plain n)) in
        let simulated = r.invariant.simulated in
        let a = interpreting_all n (omega arith) in
        tables_equal (interpreted_to n).table t simulated.formed f r.canonical all (simulated.setup ∙ sym set)
        (simulated.retired ∙ ap retired_mark r.unretired ∙ sym unretired) a.count
        (λ p h. let l : p < n = omega (arith, a.count) in
        subst (λ (m : ℕ). SameRow (row_at (interpreted_to n).table p) (with_mark_of m (row_at t p))) (ap (λ (z : Bool). cond z (mark_at t p) 0) (lt-ltb p n l)) (a.same p l))

    pub retraced : site_with digest s buffer calls_of ≡ record { table = t; records = restored t records buffer n }
    retraced = λ i. record { table = table_is i; records = (interpreting_all n (omega arith)).is i }

    -- they admit the table's blocks and no other
    pub calls_among : (b : Bytes) → Memᴰ b (ledger_of digest s buffer calls_of).blocks → (i : ℕ) × (i < n) × (b ≡ block i)
    calls_among b m = elim (after_blocks digest s (length buffer) empty calls_of b m) [
      | inl o ↦ absurd (Memᴰ.not-nil o)
      | inr o ↦ elim (Memᴰ.append_cases (admitting block n) o.1) [
        | inl u ↦ admitting_from block n b o.0 u
        | inr u ↦ absurd (interpreting_none t n b o.0 u)
      ]
    ]
