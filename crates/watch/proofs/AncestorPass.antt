-- The pass down over the places finds all ancestors: what it adds to a mask are the ancestors of the places in it. Assumes nothing.
use mathlib.Core.Path.{◌≡◌, sym, ◌∙◌}
use mathlib.Core.Bool.{true, false, or-true}
use mathlib.Core.Logic.Iff
use mathlib.Core.Logic.{◌↔◌, ◌⊎◌, inl, inr, ⊎_elim, ⊎_map}
use Prim.Native.Nat.{ℕ, zero, suc, ◌^◌, ◌≤◌, ◌<◌}
use native.Mathlib.Nat.{eq-or-lt_of_le, le_of_suc-le-suc}
use native.Mathlib.Omega.{arith}
use lib.Bits.{bit_or}
use lib.Pow.{pow_mono}
use Rattle.base.specs.Mask.{in_mask}
use Rattle.base.specs.Bytes.{Bytes}
use Rattle.base.proofs.Tests.{by_test, true_not_false, or_cases, same_tests}
use Rattle.base.proofs.Mask.{mask_below_lem}
use Rattle.base.proofs.Sets.{mask_same, mask_members, mask_or}
use Rattle.table.specs.View.{max_places}
use Rattle.table.specs.Layout.{count_of, references_at, view_of}
use Rattle.watch.specs.Ancestors.{is_ancestor, PlaceAncestor, direct, further, ancestor_mask}
use Rattle.watch.specs.Steps.{gathered}
use Rattle.watch.proofs.AncestorTest.{RefersLower, ancestor_bit}

-- what is in one of two masks
or_has : (m n p : ℕ) → (in_mask (bit_or m n) p ≡ true) ↔ ((in_mask m p ≡ true) ⊎ (in_mask n p ≡ true))
or_has m n p = (
  λ e. or_cases (in_mask m p) (in_mask n p) (sym (mask_or m n p) ∙ e),
  λ s. mask_or m n p ∙ ⊎_elim (λ y. rw y) (λ y. rw y (or-true (in_mask m p))) s,
)

module _ (t : Bytes) (a : ℕ) where
  -- a is in the mask, or an ancestor of a place below j that is in it
  abbrev pub Below : ℕ → ℕ → Type 0
  Below j m = (in_mask m a ≡ true) ⊎ ((c : ℕ) × (c < j) × (in_mask m c ≡ true) × PlaceAncestor (view_of t) a c)

  below_or : (j m n : ℕ) → (Below j m ⊎ Below j n) ↔ Below j (bit_or m n)
  below_or j m n = (
    λ s. elim s [
      | inl (inl y) ↦ inl ((or_has m n a).1 (inl y))
      | inl (inr w) ↦ inr (w.0, w.1, (or_has m n w.0).1 (inl w.2), w.3)
      | inr (inl y) ↦ inl ((or_has m n a).1 (inr y))
      | inr (inr w) ↦ inr (w.0, w.1, (or_has m n w.0).1 (inr w.2), w.3)
    ],
    λ b. elim b [
      | inl y ↦ elim ((or_has m n a).0 y) [ inl y ↦ inl (inl y) | inr y ↦ inr (inl y) ]
      | inr w ↦ elim ((or_has m n w.0).0 w.2) [ inl y ↦ inl (inr (w.0, w.1, y, w.3)) | inr y ↦ inr (inr (w.0, w.1, y, w.3)) ]
    ],
  )

  -- one place more: where it is in the mask, its ancestors count
  below_suc : (j m : ℕ) → (Below j m ⊎ ((in_mask m j ≡ true) × PlaceAncestor (view_of t) a j)) ↔ Below (suc j) m
  below_suc j m = (
    λ s. elim s [ inl (inl y) ↦ inl y | inl (inr w) ↦ inr (w.0, omega arith, w.2, w.3) | inr p ↦ inr (j, omega arith, p.0, p.1) ],
    λ b. elim b [
      | inl y ↦ inl (inl y)
      | inr w ↦ elim (eq-or-lt_of_le (le_of_suc-le-suc w.1)) [ inl e ↦ inr (rw e at w.2, rw e at w.3) | inr l ↦ inl (inr (w.0, l, w.2, w.3)) ]
    ],
  )

module _ (t : Bytes) (fits : count_of t ≤ max_places) (lower : RefersLower (view_of t)) where
  -- the ancestors of a place are the places that it refers to, and their ancestors
  ancestor_below : (i a : ℕ) → i < count_of t → a < max_places → Below t a i (references_at t i) ↔ PlaceAncestor (view_of t) a i
  ancestor_below i a l s = (below, above)
    where
      below : Below t a i (references_at t i) → PlaceAncestor (view_of t) a i
      below (inl r) = let h : a < count_of t = omega (arith, lower i l a s r) in direct h r
      below (inr w) = let h : w.0 < count_of t = omega arith in further w.3 h w.2

      above : PlaceAncestor (view_of t) a i → Below t a i (references_at t i)
      above (direct h r) = inl r
      above (further {c} p h r) = inr (c, lower i l c (omega arith) r, r, p)

  -- one turn of the pass: place j is in the mask and adds what it refers to, or it is not
  turn_adds : (j m a : ℕ) → j < count_of t → a < max_places → in_mask m j ≡ true → Below t a j (bit_or m (references_at t j)) ↔ Below t a (suc j) m
  turn_adds j m a l s y =
      let e = ancestor_below j a l s in
      Iff.trans (Iff.symm (below_or t a j m (references_at t j)))
      (Iff.trans (⊎_map (λ b. b) (λ b. (y, e.0 b)), ⊎_map (λ b. b) (λ p. e.1 p.1)) (below_suc t a j m))

  turn_passes : (j m a : ℕ) → in_mask m j ≡ false → Below t a j m ↔ Below t a (suc j) m
  turn_passes j m a n = (
    λ b. (below_suc t a j m).0 (inl b),
    λ b. ⊎_elim (λ b. b) (λ p. true_not_false p.0 n) ((below_suc t a j m).1 b),
  )

  pub gathered_has : (j m a : ℕ) → j ≤ count_of t → a < max_places → (in_mask (gathered t j m) a ≡ true) ↔ Below t a j m
  unfolding gathered
  gathered_has zero m a l s = (inl, λ b. ⊎_elim (λ y. y) (λ w. absurd (omega arith)) b)
  gathered_has (suc j) m a l s = by_test (in_mask m j)
      (λ y. rw y (Iff.trans (gathered_has j (bit_or m (references_at t j)) a (omega arith) s) (turn_adds j m a (omega arith) s y)))
      (λ n. rw n (Iff.trans (gathered_has j m a (omega arith) s) (turn_passes j m a n)))

  pub gathered_bit : (i a : ℕ) → i < count_of t → a < max_places → (in_mask (gathered t i (references_at t i)) a ≡ true) ↔ PlaceAncestor (view_of t) a i
  gathered_bit i a l s = Iff.trans (gathered_has i (references_at t i) a (omega arith) s) (ancestor_below i a l s)

  -- what is gathered from a place's references on are its ancestors, where it has room in 64 bits
  pub gathered_ancestors : (i : ℕ) → i < count_of t → gathered t i (references_at t i) < 2 ^ max_places
      → gathered t i (references_at t i) ≡ ancestor_mask (view_of t) i
  gathered_ancestors i l w = sym (mask_members max_places g w) ∙ mask_same (in_mask g) (in_mask m) max_places same ∙ mask_members max_places m wide
    where
      g : ℕ
      g = gathered t i (references_at t i)

      m : ℕ
      m = ancestor_mask (view_of t) i

      wide : m < 2 ^ max_places
      wide = omega (arith, mask_below_lem (is_ancestor (view_of t) i) (count_of t), pow_mono fits)

      same : (a : ℕ) → a < max_places → in_mask g a ≡ in_mask m a
      same a s =
          let e = gathered_bit i a l s in
          let f = ancestor_bit (view_of t) fits lower i a l in
          same_tests (in_mask g a) (in_mask m a) (λ y. f.1 (e.0 y)) (λ y. e.1 (f.0 y))
