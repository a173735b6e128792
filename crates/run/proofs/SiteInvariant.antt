-- What every site has that calls reached and that has retired nothing: its table's rows stand as their bytes and show the blocks of its ledger,
-- all of which the reader accepts; and the part of each marked place is what interpreting it now would write. Assumes nothing.
use mathlib.Core.Path.{◌≡◌, refl, sym, ap, ◌∙◌, subst}
use mathlib.Core.Bool.{true}
use mathlib.Core.Logic.{◌≢◌, inl, inr}
use mathlib.Core.List.{List, [], ◌∷◌, Memᴰ}
use Prim.Native.Nat.{ℕ, ◌+◌, ◌-◌, ◌≤◌, ◌<◌}
use native.Mathlib.Nat.{eq-or-lt_of_le}
use native.Mathlib.Omega.{arith}
use lib.Dec.{eqb}
use lib.ListN.{length}
use borrow.Author.Tests.{eqb-true, eqb-false}
use Rattle.base.specs.Bytes.{Bytes, splice}
use Rattle.base.proofs.Tests.{by_test, same_tests}
use Rattle.setup.specs.Setup.{Setup, lawful, slot_count}
use Rattle.block.specs.Limits.{reference_size}
use Rattle.block.specs.Layout.{site_of, sequence_of, references_of, request_for}
use Rattle.block.specs.Reading.{reading, fields_of}
use Rattle.std.specs.Prelude.{Ok}
use Rattle.block.specs.Promises.{Shaped}
use Rattle.block.proofs.Acceptance.{reading_accepted}
use Rattle.table.specs.View.{max_places, SameRow}
use Rattle.table.specs.Layout.{setup_of, retired_of, count_of, digest_at, site_at, sequence_at, counted_request_at, mark_at, row_at, view_of, with_mark}
use Rattle.table.specs.Writing.{without_last}
use Rattle.table.specs.Form.{in_form}
use Rattle.table.specs.Promises.{Grown, Marked, Shows}
use Rattle.table.proofs.Views.{RowForm}
use Rattle.table.proofs.InForm.{table_form, formed_row, formed_parent}
use Rattle.table.proofs.Canonical.{Canonical, row_canonical, mark_canonical}
use Rattle.records.specs.Layout.{part_size, part_start, part_of}
use Rattle.records.proofs.Parts.{part_written, part_other}
use Rattle.admission.specs.Admission.{lists, row_for, admission, admitted}
use Rattle.admission.proofs.Promises.{promises}
use Rattle.admission.proofs.ReferenceList.{lists_member, member_lists}
use Rattle.take_back.specs.TakingBack.{taking_back, taken_back}
use Rattle.take_back.proofs.Promises.{promises as taking_back_promises}
use Rattle.take_back.proofs.Effect.{taken_canonical}
use Rattle.interpret.specs.Interpretation.{written, interpretation}
use Rattle.interpret.proofs.Causes.{causes}
use Rattle.interpret.proofs.Relocation.{written_kept}
use Rattle.interpret.proofs.Effect.{here, low, whole, is_marked, written_length, marked_passed, recorded_passed}
use Rattle.history.proofs.Ancestry.{refers_back, referred_held}
use Rattle.run.specs.Ledger.{Call, admit, interpret, retire, take_back, Ledger, empty, taken, retired_mark, ledger_step, ledger_after}
use Rattle.run.specs.Run.{Site, started, site_answer, site_step, site_after}
use Rattle.run.specs.Promises.{ledger_of, site_with}
use Rattle.run.proofs.Simulation.{Simulates}
use Rattle.run.proofs.LedgerPlaces.{LedgerPlaces, standing, one_history_each, unretired_clear}
use Rattle.run.proofs.Runs.{RunInvariant, passed, refused, site_stays, step_invariant}
use Rattle.run.proofs.Growth.{some_retired, after_unretired}
use Rattle.run.proofs.Promises.{run}

-- the part of a marked place is what interpreting it now would write
abbrev pub Fixed : Setup → Bytes → List ℕ → Type 0
Fixed s t b = (i : ℕ) → i < count_of t → mark_at t i ≡ 1 → part_of b i ≡ written s (view_of t) b i

module _ (digest : Bytes → Bytes) (sized : (b : Bytes) → length (digest b) ≡ reference_size) (s : Setup) where
  -- ---- the parts of marked places

  module _ (x : Site) (f : in_form x.table ≡ true) (unretired : retired_of x.table ≡ 0) (set : setup_of x.table ≡ s) (c : Canonical x.table) (k : Fixed s x.table x.records) where
    abbrev t : Bytes
    t = x.table

    few : count_of t ≤ max_places
    few = (table_form t f).held.fits

    admits_canonical : (b : Bytes) (verdict : ℕ) → (admission digest t b verdict).refusal ≡ 0 → Canonical (admitted digest t b verdict)
    unfolding admitted
    admits_canonical b verdict e =
        let room = (((promises digest sized).causes t b verdict).none.0 e).1 in
        rw e (row_canonical t (row_for digest (view_of t) b) (table_form t f).size room (sized b) c)

    admits_fixed : (b : Bytes) (verdict : ℕ) → (admission digest t b verdict).refusal ≡ 0 → Fixed s (admitted digest t b verdict) x.records
    admits_fixed b verdict e i h m = elim (eq-or-lt_of_le le) [
      | inl q ↦ absurd (omega (arith, g.here.mark, ap (λ (n : ℕ). mark_at t' n) q))
      | inr l ↦ let old = k i l ((g.below i l).mark ∙ m) in
          old ∙ written_kept s t t' x.records x.records i (omega (arith, few)) (formed_parent t f unretired i l) (g.below i l).site (g.below i l).sequence (g.below i l).request
          (λ j a. (g.below i l).refers_to j (omega (arith, few)))
          (λ j a y. let d = g.below j (omega arith) in (d.site, d.sequence, refl))
    ]
      where
        t' : Bytes
        t' = admitted digest t b verdict

        g : Grown t t' (row_for digest (view_of t) b)
        g = (promises digest sized).shown t b verdict e

        le : i ≤ count_of t
        le = omega (arith, g.count)

    interprets_canonical : (i : ℕ) → (interpretation t x.records i).refusal ≡ 0 → Canonical (with_mark t i)
    interprets_canonical i e = mark_canonical t i (table_form t f).size (here t x.records i e) few c

    interprets_fixed : (i : ℕ) → (interpretation t x.records i).refusal ≡ 0
        → Fixed s (with_mark t i) (splice x.records (part_start i) (written (setup_of t) (view_of t) x.records i))
    interprets_fixed i e j h m = by_test (eqb j i) (λ y. at_place (eqb-true j i y)) (λ n. elsewhere (eqb-false j i n) (sym ((a.rows j).mark ∙ rw n) ∙ m))
      where
        new : List ℕ
        new = written (setup_of t) (view_of t) x.records i

        after : List ℕ
        after = splice x.records (part_start i) new

        new_length : length new ≡ part_size
        new_length = written_length (setup_of t) (view_of t) x.records i (whole t x.records i e) (low t x.records i e)

        fits : part_start i + part_size ≤ length x.records
        fits = omega (arith, whole t x.records i e, low t x.records i e)

        a : Marked t (with_mark t i) i
        a = is_marked t x.records i e

        below : j < count_of t
        below = omega (arith, a.count)

        r : RowForm (setup_of t) (view_of t) j
        r = formed_row t f j below

        -- what is written at j is the same before and after, where j refers to no changed part
        written_is : ((p : ℕ) → p < j → (row_at t j).refers_to p ≡ true → p ≢ i) → written s (view_of t) x.records j ≡ written s (view_of (with_mark t i)) after j
        written_is other = written_kept s t (with_mark t i) x.records after j (omega (arith, below, few)) (formed_parent t f unretired j below) (sym (a.rows j).site) (sym (a.rows j).sequence)
            (λ slot l. sym ((a.rows j).request slot l)) (λ p l. sym ((a.rows j).refers_to p (omega (arith, below, few))))
            (λ p l y. (sym (a.rows p).site, sym (a.rows p).sequence, sym (part_other x.records new i new_length fits p (other p l y))))

        at_place : j ≡ i → part_of after j ≡ written s (view_of (with_mark t i)) after j
        at_place q =
            ap (part_of after) q ∙ part_written x.records new i new_length fits
            ∙ ap (λ (z : Setup). written z (view_of t) x.records i) set
            ∙ ap (written s (view_of t) x.records) (sym q)
            ∙ written_is (λ p l y z. omega arith)

        elsewhere : j ≢ i → mark_at t j ≡ 1 → part_of after j ≡ written s (view_of (with_mark t i)) after j
        elsewhere n o =
            part_other x.records new i new_length fits j n ∙ k j below o
            ∙ written_is (λ p l y z. absurd (unmarked (ap (mark_at t) (sym z) ∙ r.closed o p l y)))
          where
            unmarked : mark_at t i ≢ 1
            unmarked = ((causes t x.records i).none.0 e).0.unmarked

    takes_back_fixed : (taking_back t).refusal ≡ 0 → Fixed s (taken_back t) x.records
    takes_back_fixed e i h m =
        k i below (sym (row i below_last).mark ∙ m)
        ∙ written_kept s t (taken_back t) x.records x.records i (omega (arith, below, few)) (formed_parent t f unretired i below) (sym (row i below_last).site)
        (sym (row i below_last).sequence) (λ slot l. sym ((row i below_last).request slot l)) (λ j a. sym ((row i below_last).refers_to j (omega (arith, below, few))))
        (λ j a y. let r = row j (omega (arith, below_last)) in (sym r.site, sym r.sequence, refl))
      where
        shows : Shows (setup_of t) (without_last (view_of t)) (taken_back t)
        shows = taking_back_promises.shown t e

        row : (j : ℕ) → j < count_of t - 1 → SameRow (row_at (taken_back t) j) (row_at t j)
        row = shows.rows

        below_last : i < count_of t - 1
        below_last = omega (arith, shows.count)

        below : i < count_of t
        below = omega (arith, below_last)

  -- ---- what calls reach

  pub record SiteInvariant (size : ℕ) (l : Ledger) (x : Site) : Type 0 where
    pub invariant : RunInvariant digest sized s size l x
    pub unretired : l.retired ≡ []
    pub canonical : Canonical x.table
    pub fixed : Fixed s x.table x.records
    pub accepted : (p : ℕ) → p < l.held → reading (l.block p) ≡ Ok (fields_of (l.block p))

  module _ (size : ℕ) (l : Ledger) (x : Site) (r : SiteInvariant size l x) where
    abbrev simulated : Simulates digest s size l x
    simulated = r.invariant.simulated

    none : retired_of x.table ≡ 0
    none = simulated.retired ∙ ap retired_mark r.unretired

    -- a call that passes and retires nothing

    pass_canonical : (c : Call) → (site_answer digest x c).refusal ≡ 0 → (taken l c).retired ≡ [] → Canonical (site_step digest x c).table
    unfolding site_answer site_step taken
    pass_canonical (admit b verdict) e o = admits_canonical x simulated.formed none simulated.setup r.canonical r.fixed b verdict e
    pass_canonical (interpret i) e o = rw (marked_passed x.table x.records i e) (interprets_canonical x simulated.formed none simulated.setup r.canonical r.fixed i e)
    pass_canonical retire e o = absurd (some_retired (l.block 0) l.retired o)
    pass_canonical take_back e o = taken_canonical x.table r.canonical

    pass_fixed : (c : Call) → (site_answer digest x c).refusal ≡ 0 → (taken l c).retired ≡ [] → Fixed s (site_step digest x c).table (site_step digest x c).records
    unfolding site_answer site_step taken
    pass_fixed (admit b verdict) e o = admits_fixed x simulated.formed none simulated.setup r.canonical r.fixed b verdict e
    pass_fixed (interpret i) e o =
        rw (marked_passed x.table x.records i e, recorded_passed x.table x.records i e)
        (interprets_fixed x simulated.formed none simulated.setup r.canonical r.fixed i e)
    pass_fixed retire e o = absurd (some_retired (l.block 0) l.retired o)
    pass_fixed take_back e o = takes_back_fixed x simulated.formed none simulated.setup r.canonical r.fixed e

    pass_accepted : (c : Call) → (site_answer digest x c).refusal ≡ 0 → (taken l c).retired ≡ []
        → (p : ℕ) → p < (taken l c).held → reading ((taken l c).block p) ≡ Ok (fields_of ((taken l c).block p))
    unfolding site_answer taken
    pass_accepted (admit b verdict) e o p h = by_test (eqb p l.held)
        (λ y. rw y (((promises digest sized).causes x.table b verdict).none.0 e).0.linked.is_new.readable.accepted)
        (λ n. rw n (r.accepted p (omega (arith, eqb-false p l.held n))))
    pass_accepted (interpret i) e o p h = r.accepted p h
    pass_accepted retire e o p h = absurd (some_retired (l.block 0) l.retired o)
    pass_accepted take_back e o p h = r.accepted p (omega arith)

    call_reached : (c : Call) → (ledger_step digest s size l c).retired ≡ [] → SiteInvariant size (ledger_step digest s size l c) (site_step digest x c)
    call_reached c o = by_test (eqb (site_answer digest x c).refusal 0) (λ y. pass (eqb-true _ 0 y)) (λ n. stay (eqb-false _ 0 n))
      where
        pass : (site_answer digest x c).refusal ≡ 0 → SiteInvariant size (ledger_step digest s size l c) (site_step digest x c)
        pass e =
            let q : ledger_step digest s size l c ≡ taken l c = passed digest sized s size l x r.invariant c e in
            let z : (taken l c).retired ≡ [] = ap (λ (m : Ledger). m.retired) (sym q) ∙ o in
            subst (λ (m : Ledger). SiteInvariant size m (site_step digest x c)) (sym q) (record {
              invariant = subst (λ (m : Ledger). RunInvariant digest sized s size m (site_step digest x c)) q (step_invariant digest sized s size l x r.invariant c);
              unretired = z;
              canonical = pass_canonical c e z;
              fixed = pass_fixed c e z;
              accepted = pass_accepted c e z;
            })

        stay : (site_answer digest x c).refusal ≢ 0 → SiteInvariant size (ledger_step digest s size l c) (site_step digest x c)
        stay n = rw (refused digest sized s size l x r.invariant c n, site_stays digest sized s size l x r.invariant c n) r

  calls_reached : (size : ℕ) (l : Ledger) (x : Site) → SiteInvariant size l x → (cs : List Call) → (ledger_after digest s size l cs).retired ≡ []
      → SiteInvariant size (ledger_after digest s size l cs) (site_after digest x cs)
  unfolding ledger_after site_after
  calls_reached size l x r [] o = r
  calls_reached size l x r (c ∷ cs) o =
      calls_reached size (ledger_step digest s size l c) (site_step digest x c)
      (call_reached size l x r c (after_unretired digest s size (ledger_step digest s size l c) cs o)) cs o

  started_reached : lawful s ≡ true → (buffer : List ℕ) → SiteInvariant (length buffer) empty (started s buffer)
  unfolding ledger_after site_after
  started_reached law buffer =
      let t : RunInvariant digest sized s (length buffer) empty (started s buffer) = run digest sized s law buffer [] in
      record {
        invariant = t;
        unretired = refl;
        canonical = λ i h. absurd (omega (arith, t.simulated.count));
        fixed = λ i h. absurd (omega (arith, t.simulated.count));
        accepted = λ p h. absurd (omega arith);
      }

  pub reached : lawful s ≡ true → (buffer : List ℕ) (calls : List Call) → (ledger_of digest s buffer calls).retired ≡ []
      → SiteInvariant (length buffer) (ledger_of digest s buffer calls) (site_with digest s buffer calls)
  reached law buffer calls o = calls_reached (length buffer) empty (started s buffer) (started_reached law buffer) calls o

-- ---- the blocks of a table

-- the rows of a table show these blocks, which the reader accepts and whose references are held
pub record Rows (digest : Bytes → Bytes) (t : Bytes) (block : ℕ → Bytes) : Type 0 where
  pub digests : (p : ℕ) → p < count_of t → digest_at t p ≡ digest (block p)
  pub sites : (p : ℕ) → p < count_of t → site_at t p ≡ site_of (block p)
  pub sequences : (p : ℕ) → p < count_of t → sequence_at t p ≡ sequence_of (block p)
  pub requests : (p : ℕ) → p < count_of t → (slot : ℕ) → slot < slot_count → counted_request_at t p slot ≡ request_for (block p) slot
  pub refers : (p q : ℕ) → p < count_of t → q < count_of t → (row_at t p).refers_to q ≡ lists (block p) (digest_at t q)
  pub linked : (p : ℕ) → p < count_of t → (r : Bytes) → Memᴰ r (references_of (block p)) → (q : ℕ) × (q < count_of t) × (digest_at t q ≡ r)
  pub accepted : (p : ℕ) → p < count_of t → reading (block p) ≡ Ok (fields_of (block p))

module _ (digest : Bytes → Bytes) (sized : (b : Bytes) → length (digest b) ≡ reference_size) (s : Setup) (size : ℕ) (l : Ledger) (x : Site)
    (r : SiteInvariant digest sized s size l x) where
  abbrev ties : Simulates digest s size l x
  ties = r.invariant.simulated

  stand : LedgerPlaces digest l x.table
  stand = standing digest sized s size l x r.invariant

  linked_at : (p : ℕ) → p < count_of x.table → (d : Bytes) → Memᴰ d (references_of (l.block p)) → (q : ℕ) × (q < count_of x.table) × (digest_at x.table q ≡ d)
  linked_at p h d m =
      let one = one_history_each digest sized s size l x r.invariant (unretired_clear digest sized s size l x r.invariant r.unretired) in
      let c = referred_held digest l.blocks (refers_back digest l.blocks one) (l.block p) (stand.among p (stand.held p h)) d m in
      let q = stand.all_placed r.unretired c.0 c.1 in
      (q.0, stand.counted q.0 q.1, (ties.rows q.0 (stand.counted q.0 q.1)).digest ∙ ap digest (sym q.2) ∙ c.2)

  -- what a place refers to is what its block lists
  refers_is : (p q : ℕ) → p < count_of x.table → q < count_of x.table → (row_at x.table p).refers_to q ≡ lists (l.block p) (digest_at x.table q)
  refers_is p q h k =
      same_tests _ _
      (λ y. ap (lists (l.block p)) (ties.rows q k).digest ∙ member_lists (l.block p) shape _ (stand.lists p q (stand.held p h) (stand.held q k) y))
      (λ y. stand.refers r.unretired p q (stand.held p h) (stand.held q k) (lists_member (l.block p) shape _ (ap (lists (l.block p)) (sym (ties.rows q k).digest) ∙ y)))
    where
      shape : Shaped (l.block p)
      shape = (reading_accepted (l.block p) (fields_of (l.block p)) (r.accepted p (stand.held p h))).accepted.shape

  pub reached_rows : Rows digest x.table l.block
  reached_rows =
      record {
        digests = λ p h. (ties.rows p h).digest;
        sites = λ p h. (ties.rows p h).site;
        sequences = λ p h. (ties.rows p h).sequence;
        requests = λ p h. (ties.rows p h).request;
        refers = refers_is;
        linked = linked_at;
        accepted = λ p h. r.accepted p (stand.held p h);
      }
