-- An interpretation that passes its checks: the table shows the mark and no other change and stays in form, and what is written has the length of a
-- place's part, so the buffer keeps its length. Assumes nothing.
use mathlib.Core.Path.{◌≡◌, refl, sym, ap, ◌∙◌}
use mathlib.Core.Bool.{Bool, true, false}
use mathlib.Core.List.Memᴰ
use mathlib.Core.List.{List, Memᴰ}
use mathlib.Core.Logic.{◌⊎◌, inl, inr}
use Prim.Native.Nat.{ℕ, zero, suc, ◌+◌, ◌*◌, ◌≤◌, ◌<◌}
use native.Mathlib.Nat.{eq-or-lt_of_le, le_of_suc-le-suc}
use native.Mathlib.Omega.{arith}
use lib.Dec.{eqb}
use lib.ListN.{length}
use borrow.Author.Tests.{eqb-true, eqb-false}
use Rattle.base.specs.Bytes.{Bytes, splice}
use Rattle.base.proofs.Tests.{by_test, true_not_false}
use Rattle.base.proofs.Splice.{length_splice}
use Rattle.setup.specs.Setup.{Setup, slot_count}
use Rattle.broadcast.proofs.Steps.{Sized}
use Rattle.table.specs.View.{max_places, Row, View}
use Rattle.table.specs.Layout.{setup_of, count_of, row_at, view_of, with_mark}
use Rattle.table.specs.Form.{in_form}
use Rattle.table.specs.Promises.{Marked}
use Rattle.table.proofs.InForm.{TableForm, table_form, in_formed}
use Rattle.table.proofs.MarkedPlace.{marked as mark_read, marked_formed}
use Rattle.records.specs.Layout.{record_size, part_size, buffer_size, part_start}
use Rattle.records.proofs.RecordNumbers.{record_sized}
use Rattle.records.proofs.Parts.{numbers_length}
use Rattle.interpret.specs.Slot.{Direct}
use Rattle.interpret.specs.Interpretation.{direct_at, join_if, directs_below, record_for, written, interpretation, marked, recorded}
use Rattle.interpret.specs.Promises.{Open}
use Rattle.interpret.proofs.Causes.{causes}
use Rattle.interpret.proofs.Order.{interpret_slot_sized}

-- ---- the blocks of the lower places that a row refers to

module _ (v : View) (buffer : List ℕ) (slot : ℕ) (r : Row) where
  pub below_from : (k : ℕ) (d : Direct) → Memᴰ d (directs_below v buffer slot r k)
      → (j : ℕ) × (j < k) × (r.refers_to j ≡ true) × (d ≡ direct_at v buffer slot j)
  unfolding directs_below join_if
  below_from zero d m = absurd (Memᴰ.not-nil m)
  below_from (suc k) d m = go (r.refers_to k) refl m (λ n. let w = below_from k d n in (w.0, omega (arith, w.1), w.2, w.3))
    where
      go : (t : Bool) → r.refers_to k ≡ t → Memᴰ d (join_if t (direct_at v buffer slot k) (directs_below v buffer slot r k))
          → (Memᴰ d (directs_below v buffer slot r k) → (j : ℕ) × (j < suc k) × (r.refers_to j ≡ true) × (d ≡ direct_at v buffer slot j))
          → (j : ℕ) × (j < suc k) × (r.refers_to j ≡ true) × (d ≡ direct_at v buffer slot j)
      go true y n ih = elim (Memᴰ.cases_cons n) [ inl q ↦ (k, omega arith, y, q) | inr l ↦ ih l ]
      go false y n ih = ih n

  pub below_has : (k j : ℕ) → j < k → r.refers_to j ≡ true → Memᴰ (direct_at v buffer slot j) (directs_below v buffer slot r k)
  unfolding directs_below join_if
  below_has zero j h y = absurd (omega arith)
  below_has (suc k) j h y = go (r.refers_to k) refl (eq-or-lt_of_le (le_of_suc-le-suc h)) (λ l. below_has k j l y)
    where
      go : (t : Bool) → r.refers_to k ≡ t → (j ≡ k) ⊎ (j < k) → (j < k → Memᴰ (direct_at v buffer slot j) (directs_below v buffer slot r k))
          → Memᴰ (direct_at v buffer slot j) (join_if t (direct_at v buffer slot k) (directs_below v buffer slot r k))
      go true z (inl q) ih = Memᴰ.head (ap (direct_at v buffer slot) q)
      go true z (inr l) ih = Memᴰ.tail (ih l)
      go false z (inl q) ih = true_not_false (ap r.refers_to (sym q) ∙ y) z
      go false z (inr l) ih = ih l

-- where the buffer is whole, what is made of it has the length of a part
pub written_length : (s : Setup) (v : View) (buffer : List ℕ) (i : ℕ) → length buffer ≡ buffer_size → i < max_places → length (written s v buffer i) ≡ part_size
unfolding record_for
written_length s v buffer i size low =
    numbers_length (record_for s v buffer i) (λ slot h. interpret_slot_sized s slot _ _ _ (directs_below v buffer slot (v.row i) i) (λ d m. sized slot h d (below_from v buffer slot (v.row i) i d m)))
  where
    sized : (slot : ℕ) → slot < slot_count → (d : Direct) → ((j : ℕ) × (j < i) × ((v.row i).refers_to j ≡ true) × (d ≡ direct_at v buffer slot j)) → Sized d.state
    sized slot h d w = rw w.3 (record_sized buffer (part_start w.0 + record_size * slot) (omega (arith, w.1)))

-- ---- an interpretation that passes

module _ (t : Bytes) (buffer : List ℕ) (i : ℕ) (e : (interpretation t buffer i).refusal ≡ 0) where
  open_there : Open t buffer i
  open_there = ((causes t buffer i).none.0 e).0

  pub formed : TableForm t
  formed = table_form t open_there.place_held.records_sized.formed

  pub whole : length buffer ≡ buffer_size
  whole = open_there.place_held.records_sized.size

  pub here : i < count_of t
  here = open_there.place_held.below

  pub low : i < max_places
  low = omega (arith, here, formed.held.fits)

  -- its references are interpreted
  pub ready : (j : ℕ) → j < i → (row_at t i).refers_to j ≡ true → (row_at t j).mark ≡ 1
  ready j h y = by_test (eqb (row_at t j).mark 1) (λ m. eqb-true (row_at t j).mark 1 m)
      (λ n. absurd (((causes t buffer i).none.0 e).1 (j, record { lower = h; refers = y; unmarked = eqb-false (row_at t j).mark 1 n })))

  pub is_marked : Marked t (with_mark t i) i
  is_marked = mark_read t i formed.size low

  pub still_formed : in_form (with_mark t i) ≡ true
  still_formed = in_formed (with_mark t i) (marked_formed t (with_mark t i) i formed is_marked here ready)

  -- what the call leaves
  pub marked_passed : marked t buffer i ≡ with_mark t i
  unfolding marked
  marked_passed = rw e

  pub recorded_passed : recorded t buffer i ≡ splice buffer (part_start i) (written (setup_of t) (view_of t) buffer i)
  unfolding recorded
  recorded_passed = rw e

  pub part_fits : part_start i + length (written (setup_of t) (view_of t) buffer i) ≤ length buffer
  part_fits = omega (arith, whole, low, written_length (setup_of t) (view_of t) buffer i whole low)

-- ---- every interpretation

module _ (t : Bytes) (buffer : List ℕ) (i : ℕ) where
  marked_refused : eqb (interpretation t buffer i).refusal 0 ≡ false → marked t buffer i ≡ t
  unfolding marked
  marked_refused n = rw n

  recorded_refused : eqb (interpretation t buffer i).refusal 0 ≡ false → recorded t buffer i ≡ buffer
  unfolding recorded
  recorded_refused n = rw n

  pub shown : (interpretation t buffer i).refusal ≡ 0 → Marked t (marked t buffer i) i
  shown e = rw (marked_passed t buffer i e) (is_marked t buffer i e)

  pub kept : in_form t ≡ true → in_form (marked t buffer i) ≡ true
  kept f = by_test (eqb (interpretation t buffer i).refusal 0)
      (λ y. let e = eqb-true (interpretation t buffer i).refusal 0 y in ap in_form (marked_passed t buffer i e) ∙ still_formed t buffer i e)
      (λ n. ap in_form (marked_refused n) ∙ f)

  pub sized : length (recorded t buffer i) ≡ length buffer
  sized = by_test (eqb (interpretation t buffer i).refusal 0)
      (λ y. let e = eqb-true (interpretation t buffer i).refusal 0 y in ap length (recorded_passed t buffer i e) ∙ length_splice buffer (part_start i) _ (part_fits t buffer i e))
      (λ n. ap length (recorded_refused n))
