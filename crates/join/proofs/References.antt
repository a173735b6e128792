-- The place of a digest in a table in form, references by digest, and what check 24 shows. Assumes nothing.
use mathlib.Core.Path.{◌≡◌, sym, ap, ◌∙◌}
use mathlib.Core.Bool.{true, false, not, ◌&&◌, ◌||◌}
use Prim.Native.Nat.{ℕ, ◌^◌, ◌≤◌, ◌<◌}
use native.Mathlib.Omega.{arith}
use lib.Dec.{eqb, ltb}
use borrow.Author.Tests.{eqb-true, eq-eqb, lt-ltb, ltb-true, ltb-false, not-false}
use Rattle.base.specs.Search.{any_below}
use Rattle.base.specs.Mask.{in_mask}
use Rattle.base.specs.Bytes.{Bytes}
use Rattle.base.proofs.Tests.{by_test, true_not_false, and_left, and_right, and_not_right, same_tests}
use Rattle.base.proofs.Search.{first_le, first_passes, any_true, any_first, any_true_at, any_false_at, all_true_at}
use Rattle.base.proofs.Bytes.{same_equal, equal_same}
use Rattle.base.proofs.TopPlace.{not_in}
use Rattle.setup.specs.Setup.{slot_count}
use Rattle.table.specs.View.{max_places, View}
use Rattle.table.specs.Layout.{count_of, digest_at, references_at, mark_at, view_of}
use Rattle.table.specs.Rules.{has_digest}
use Rattle.table.specs.Form.{in_form}
use Rattle.table.proofs.InForm.{table_form, formed_row, one_place}
use Rattle.join.specs.Join.{refers_by, refers_within, same_block, clashes, clash_at, place_in, interpreted_at}

-- ---- the place of a digest

-- where it is found it stands
pub place_has : (v : View) (d : Bytes) → place_in v d < v.held → (v.row (place_in v d)).digest ≡ d
place_has v d h = same_equal _ _ (first_passes (has_digest v d) v.held h)

-- where it stands it is found
pub place_found : (v : View) (d : Bytes) (i : ℕ) → i < v.held → (v.row i).digest ≡ d → place_in v d < v.held
place_found v d i h e = any_first (has_digest v d) v.held (any_true (has_digest v d) v.held i h (equal_same _ _ e))

pub place_is : (t : Bytes) → in_form t ≡ true → (d : Bytes) (i : ℕ) → i < count_of t → digest_at t i ≡ d → place_in (view_of t) d ≡ i
place_is t f d i h e =
    let l = place_found (view_of t) d i h e in
    one_place t f (place_in (view_of t) d) i l h (place_has (view_of t) d l ∙ sym e)

-- an interpreted block
pub interpreted_from : (v : View) (i : ℕ) → interpreted_at v i ≡ true → (i < v.held) × ((v.row i).mark ≡ 1)
interpreted_from v i y = (ltb-true i v.held (and_left (ltb i v.held) (eqb (v.row i).mark 1) y), eqb-true _ 1 (and_right (ltb i v.held) (eqb (v.row i).mark 1) y))

pub interpreted_low : (t : Bytes) → in_form t ≡ true → (i : ℕ) → interpreted_at (view_of t) i ≡ true → i < max_places
interpreted_low t f i y = omega (arith, (interpreted_from (view_of t) i y).0, (table_form t f).held.fits)

pub interpreted_here : (t : Bytes) → in_form t ≡ true → (d : Bytes) (i : ℕ) → i < count_of t → digest_at t i ≡ d → mark_at t i ≡ 1
    → interpreted_at (view_of t) (place_in (view_of t) d) ≡ true
interpreted_here t f d i h e m = rw (place_is t f d i h e, lt-ltb i (count_of t) h, eq-eqb (mark_at t i) 1 m)

-- ---- a reference by digest

pub by_from : (v : View) (i : ℕ) (d : Bytes) → refers_by v i d ≡ true → (k : ℕ) × (k < v.held) × ((v.row i).refers_to k ≡ true) × ((v.row k).digest ≡ d)
by_from v i d e =
    let w = any_true_at (λ k. (v.row i).refers_to k && has_digest v d k) v.held e in
    (w.0, w.1, and_left ((v.row i).refers_to w.0) (has_digest v d w.0) w.2, same_equal _ _ (and_right ((v.row i).refers_to w.0) (has_digest v d w.0) w.2))

pub by_has : (v : View) (i : ℕ) (d : Bytes) (k : ℕ) → k < v.held → (v.row i).refers_to k ≡ true → (v.row k).digest ≡ d → refers_by v i d ≡ true
by_has v i d k h y e = any_true (λ k. (v.row i).refers_to k && has_digest v d k) v.held k h (rw (y, equal_same _ _ e))

-- it is one to the block's place
pub by_place : (t : Bytes) → in_form t ≡ true → (i : ℕ) → i < count_of t → references_at t i < 2 ^ max_places → (d : Bytes)
    → refers_by (view_of t) i d ≡ in_mask (references_at t i) (place_in (view_of t) d)
by_place t f i h wide d = same_tests _ _
    (λ y. let k = by_from (view_of t) i d y in ap (in_mask (references_at t i)) (place_is t f d k.0 k.1 k.3) ∙ k.2)
    (λ y. by_test (ltb p (count_of t))
    (λ z. let l : p < count_of t = ltb-true p (count_of t) z in by_has (view_of t) i d p l y (place_has (view_of t) d l))
    (λ z. by_test (ltb p max_places)
    (λ o. absurd (omega (arith, ltb-false p (count_of t) z, (formed_row t f i h).lower p (ltb-true p max_places o) y)))
    (λ o. let e : p ≡ max_places = omega (arith, ltb-false p max_places o, few, first_le (has_digest (view_of t) d) (count_of t)) in
    true_not_false y (ap (in_mask (references_at t i)) e ∙ not_in (references_at t i) max_places wide))))
  where
    p : ℕ
    p = place_in (view_of t) d

    few : count_of t ≤ max_places
    few = (table_form t f).held.fits

-- ---- what check 24 compares

pub record Agrees (v : View) (i : ℕ) (w : View) (j : ℕ) : Type 0 where
  pub site : (v.row i).site ≡ (w.row j).site
  pub sequence : (v.row i).sequence ≡ (w.row j).sequence
  pub request : (slot : ℕ) → slot < slot_count → (v.row i).request slot ≡ (w.row j).request slot
  pub to : (k : ℕ) → k < v.held → (v.row i).refers_to k ≡ true → refers_by w j (v.row k).digest ≡ true
  pub back : (k : ℕ) → k < w.held → (w.row j).refers_to k ≡ true → refers_by v i (w.row k).digest ≡ true

pub within : (v : View) (i : ℕ) (w : View) (j : ℕ) → refers_within v i w j ≡ true → (k : ℕ) → k < v.held → (v.row i).refers_to k ≡ true → refers_by w j (v.row k).digest ≡ true
within v i w j e k h y =
    let z : (not ((v.row i).refers_to k) || refers_by w j (v.row k).digest) ≡ true = all_true_at (λ k. not ((v.row i).refers_to k) || refers_by w j (v.row k).digest) v.held e k h in
    rw y at z

agrees : (v : View) (i : ℕ) (w : View) (j : ℕ) → same_block v i w j ≡ true → Agrees v i w j
unfolding same_block
agrees v i w j e =
    record {
      site = eqb-true (v.row i).site (w.row j).site (search and_left);
      sequence = eqb-true (v.row i).sequence (w.row j).sequence (search (and_left, and_right));
      request = λ slot h. eqb-true _ _ (all_true_at (λ slot. eqb ((v.row i).request slot) ((w.row j).request slot)) slot_count (search (and_left, and_right)) slot h);
      to = within v i w j (search (and_left, and_right));
      back = within w j v i (search (and_left, and_right));
    }

pub no_clash : (v w : View) → any_below (clash_at v w) v.held ≡ false → (i j : ℕ) → i < v.held → j < w.held → (v.row i).digest ≡ (w.row j).digest → Agrees v i w j
no_clash v w n i j h l e =
    agrees v i w j (not-false _ (and_not_right (has_digest w (v.row i).digest j) (not (same_block v i w j))
    (any_false_at (clashes v w i) w.held (any_false_at (clash_at v w) v.held n i h) j l) (equal_same _ _ (sym e))))
