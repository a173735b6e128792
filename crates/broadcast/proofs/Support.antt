-- How many sites support a number: as a count, and after one more is heard. Assumes nothing.
use mathlib.Core.Path.{◌≡◌, sym, ap, ◌∙◌}
use mathlib.Core.Logic.{◌⊎◌, ◌≢◌, inl, inr}
use mathlib.Core.List.{List}
use Prim.Native.Nat.{ℕ, ◌+◌, ◌≤◌, ◌<◌}
use lib.Dec.{eqb}
use lib.ListN.{length, get_or, set}
use lib.Seq.{get_or-set_same, get_or-set_other}
use borrow.Author.Tests.{eq-eqb, ne_eqb, eqb-true}
use Rattle.base.specs.Count.{count_below}
use Rattle.base.proofs.Count.{count_le, count_same, count_one_more, count_mono, count_some}
use Rattle.base.proofs.List.{set_cases, set_keeps}
use Rattle.base.proofs.Mask.{ones_mask}
use Rattle.broadcast.specs.Process.{support}

pub support_count : (n : ℕ) (heard : List ℕ) (v : ℕ) → support n heard v ≡ count_below (λ p. eqb (get_or heard p 0) v) n
unfolding support
support_count n heard v = ones_mask (λ p. eqb (get_or heard p 0) v) n

-- a number with support has a supporter
pub supporter : (n : ℕ) (heard : List ℕ) (v : ℕ) → 1 ≤ support n heard v → (p : ℕ) × (p < n) × (get_or heard p 0 ≡ v)
supporter n heard v h = let w = count_some _ n (rw (support_count n heard v) at h) in (w.0, w.1, eqb-true _ _ w.2)

-- no more than there are sites
pub support_le : (n : ℕ) (heard : List ℕ) (v : ℕ) → support n heard v ≤ n
support_le n heard v = rw (support_count n heard v) (count_le (λ p. eqb (get_or heard p 0) v) n)

-- ---- one more is heard, where nothing was

-- the number that is heard gains a supporter
pub support_gained : (n : ℕ) (heard : List ℕ) (p v : ℕ) → get_or heard p 0 ≡ 0 → v ≢ 0 → p < n → p < length heard
    → support n (set heard p v) v ≡ support n heard v + 1
support_gained n heard p v z some l h =
    support_count n (set heard p v) v
    ∙ count_one_more (λ q. eqb (get_or heard q 0) v) (λ q. eqb (get_or (set heard p v) q 0) v) n p l
    (ap (λ (x : ℕ). eqb x v) z ∙ ne_eqb 0 v (λ k. some (sym k))) (eq-eqb _ v (get_or-set_same heard p v 0 h))
    (λ q _ d. ap (λ (x : ℕ). eqb x v) (sym (get_or-set_other heard p q v 0 d)))
    ∙ ap (λ (x : ℕ). x + 1) (sym (support_count n heard v))

module _ (n : ℕ) (heard : List ℕ) (p v u : ℕ) (z : get_or heard p 0 ≡ 0) (some : u ≢ 0) where
  pub support_kept : support n heard u ≤ support n (set heard p v) u
  support_kept = rw (support_count n heard u, support_count n (set heard p v) u) (count_mono _ _ n (λ q _ e.
      let k : get_or heard q 0 ≡ u = eqb-true _ _ e in eq-eqb _ _ (set_keeps heard p v z q (λ y. some (sym k ∙ y)) ∙ k)))

  -- no other number has more supporters than before
  pub other_support : u ≢ v → support n (set heard p v) u ≡ support n heard u
  other_support ne = support_count n (set heard p v) u ∙ count_same _ _ n (λ q _. one q (set_cases heard p q v)) ∙ sym (support_count n heard u)
    where
      one : (q : ℕ) → (get_or (set heard p v) q 0 ≡ get_or heard q 0) ⊎ ((q ≡ p) × (get_or (set heard p v) q 0 ≡ v))
          → eqb (get_or (set heard p v) q 0) u ≡ eqb (get_or heard q 0) u
      one q (inl e) = rw e
      one q (inr e) = ap (λ (x : ℕ). eqb x u) e.1 ∙ ne_eqb v u (λ k. ne (sym k))
          ∙ sym (ap (λ (x : ℕ). eqb x u) (ap (λ (x : ℕ). get_or heard x 0) e.0 ∙ z) ∙ ne_eqb 0 u (λ k. some (sym k)))
