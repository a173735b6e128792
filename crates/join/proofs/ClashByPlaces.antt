-- Check 24 by places: each block was looked up once, so its references are compared as places. Assumes nothing.
use mathlib.Core.Path.{◌≡◌, sym, ap, ◌∙◌}
use mathlib.Core.Bool.{Bool, true, false, not, ◌&&◌, ◌||◌}
use mathlib.Core.List.{List}
use Prim.Native.Nat.{ℕ, ◌^◌, ◌≤◌, ◌<◌}
use native.Mathlib.Omega.{arith}
use lib.Dec.{eqb}
use lib.ListN.{get_or}
use borrow.Author.Tests.{eq-eqb, not-true, not-false}
use Rattle.base.specs.Search.{all_below}
use Rattle.base.specs.Mask.{in_mask}
use Rattle.base.specs.Bytes.{Bytes}
use Rattle.base.proofs.Tests.{by_test, and_left, and_right, and_not_right, same_tests}
use Rattle.base.proofs.Search.{any_true, any_true_at, any_false, any_false_at, all_true}
use Rattle.base.proofs.Bytes.{same_equal, equal_same}
use Rattle.setup.specs.Setup.{slot_count}
use Rattle.table.specs.View.{max_places}
use Rattle.table.specs.Layout.{count_of, digest_at, site_at, sequence_at, references_at, counted_request_at, row_at, view_of}
use Rattle.table.specs.Rules.{has_digest}
use Rattle.table.specs.Form.{in_form}
use Rattle.table.proofs.InForm.{table_form, formed_row}
use Rattle.join.specs.Join.{refers_by, refers_within, same_block, clashes, clash_at, place_in}
use Rattle.join.specs.Promises.{BothFormed}
use Rattle.join.specs.Steps.{PlacesFound, within_by}
use Rattle.join.proofs.References.{place_has, place_is, place_found, by_place, within}

-- ---- the references of place i of t, as places of u, are among those of place j there

module _ (t u : Bytes) (f : in_form t ≡ true) (g : in_form u ≡ true) (i j : ℕ) (h : i < count_of t) (l : j < count_of u)
    (wide : references_at u j < 2 ^ max_places) (places : List ℕ) (held : PlacesFound u t places) where
  abbrev fails : ℕ → Bool
  fails k = in_mask (references_at t i) k && not (in_mask (references_at u j) (get_or places k 0))

  -- a reference of the other side, by its place there
  its : (k : ℕ) → k < count_of t → in_mask (references_at u j) (get_or places k 0) ≡ refers_by (view_of u) j (digest_at t k)
  its k b = ap (in_mask (references_at u j)) (held.at k b) ∙ sym (by_place u g j l wide (digest_at t k))

  pub within_is : within_by (references_at t i) places (references_at u j) ≡ refers_within (view_of t) i (view_of u) j
  within_is = same_tests _ _
      (λ y. all_true (λ k. not ((row_at t i).refers_to k) || refers_by (view_of u) j (digest_at t k)) (count_of t) (λ k b.
      by_test (in_mask (references_at t i) k)
      (λ z. let o : in_mask (references_at u j) (get_or places k 0) ≡ true =
      not-false _ (and_not_right (in_mask (references_at t i) k) _ (any_false_at fails max_places (not-true _ y) k (omega (arith, b, (table_form t f).held.fits))) z) in
      rw (z, sym (its k b) ∙ o))
      (λ z. rw z)))
      (λ y. ap not (any_false fails max_places (λ k b. by_test (in_mask (references_at t i) k)
      (λ z. let lower : k < i = (formed_row t f i h).lower k b z in
      let c : k < count_of t = omega arith in
      let o : in_mask (references_at u j) (get_or places k 0) ≡ true = its k c ∙ within (view_of t) i (view_of u) j y k c z in
      rw (z, o))
      (λ z. rw z))))

-- ---- where the other fields are equal, the references tell

pub by_references : (left : Bytes) (i : ℕ) (right : Bytes) (j : ℕ) → site_at left i ≡ site_at right j → sequence_at left i ≡ sequence_at right j
    → all_below (λ slot. eqb (counted_request_at left i slot) (counted_request_at right j slot)) slot_count ≡ true
    → (refers_within (view_of left) i (view_of right) j && refers_within (view_of right) j (view_of left) i) ≡ same_block (view_of left) i (view_of right) j
unfolding same_block
by_references left i right j site sequence requests = rw (eq-eqb (site_at left i) (site_at right j) site, eq-eqb (sequence_at left i) (sequence_at right j) sequence, requests)

-- ---- a clash is one with the place of that digest

module _ (left right : Bytes) (f : BothFormed left right) (i : ℕ) where
  abbrev j : ℕ
  j = place_in (view_of right) (digest_at left i)

  abbrev test : ℕ → Bool
  test q = clashes (view_of left) (view_of right) i q

  pub none_there : count_of right ≤ j → false ≡ clash_at (view_of left) (view_of right) i
  none_there h = sym (any_false test (count_of right) (λ q l. by_test (has_digest (view_of right) (digest_at left i) q)
      (λ y. absurd (omega (arith, place_found (view_of right) (digest_at left i) q l (same_equal _ _ y))))
      (λ z. rw z)))

  pub one_there : j < count_of right → not (same_block (view_of left) i (view_of right) j) ≡ clash_at (view_of left) (view_of right) i
  one_there h = same_tests _ _
      (λ y. any_true test (count_of right) j h (rw (equal_same _ _ (place_has (view_of right) (digest_at left i) h), y)))
      (λ y. let q = any_true_at test (count_of right) y in
      let d = and_left (has_digest (view_of right) (digest_at left i) q.0) (not (same_block (view_of left) i (view_of right) q.0)) q.2 in
      let o = and_right (has_digest (view_of right) (digest_at left i) q.0) (not (same_block (view_of left) i (view_of right) q.0)) q.2 in
      ap (λ (k : ℕ). not (same_block (view_of left) i (view_of right) k)) (place_is right f.right_formed (digest_at left i) q.0 q.1 (same_equal _ _ d)) ∙ o)
