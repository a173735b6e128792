-- Laws of the index of digests by their first bytes: one place more, where no digest begins with a byte, and the one place of a digest. Assumes
-- nothing.
use mathlib.Core.Path.{◌≡◌, sym, ap, ◌∙◌}
use mathlib.Core.Bool.{true, false}
use mathlib.Core.Logic.{◌≢◌, inl, inr}
use mathlib.Core.List.{List}
use Prim.Native.Nat.{ℕ, zero, suc, ◌+◌, ◌≤◌, ◌<◌}
use native.Mathlib.Nat.{eq-or-lt_of_le, le_of_suc-le-suc}
use native.Mathlib.Numerals.{add-one}
use native.Mathlib.Omega.{arith}
use lib.Dec.{eqb}
use lib.ListN.{get_or, set}
use borrow.Author.Tests.{eq-eqb, ne_eqb, eqb-false}
use Rattle.base.specs.Bytes.{Bytes}
use Rattle.base.proofs.Tests.{by_test}
use Rattle.base.proofs.Search.{first_hit, first_nowhere}
use Rattle.base.proofs.List.{set_list}
use Rattle.base.proofs.Bytes.{same_equal, other_same}
use Rattle.table.specs.Layout.{count_of, digest_at, view_of}
use Rattle.table.specs.Rules.{has_digest, place_of}
use Rattle.table.specs.Form.{in_form}
use Rattle.table.specs.Steps.{last_of, byte_count, index_below}
use Rattle.table.proofs.InForm.{one_place}

-- one place more
pub index_more : (t : Bytes) (k byte : ℕ) (index : List ℕ) → byte < byte_count → byte ≡ get_or (digest_at t k) 0 0 → index ≡ index_below t k
    → set index byte (k + 1) ≡ index_below t (k + 1)
unfolding last_of
index_more t k byte index l b e =
    rw (e, add-one k)
    (set_list (λ b. last_of t b k) (λ b. last_of t b (suc k)) byte_count byte (suc k) l
    (rw (eq-eqb (get_or (digest_at t k) 0 0) byte (sym b)))
    (λ q n. rw (ne_eqb (get_or (digest_at t k) 0 0) q (λ z. n (sym (b ∙ z))))))

module _ (t : Bytes) (byte : ℕ) where
  pub last_le : (k : ℕ) → last_of t byte k ≤ k
  unfolding last_of
  last_le zero = omega arith
  last_le (suc k) = by_test (eqb (get_or (digest_at t k) 0 0) byte) (λ y. rw y (omega arith)) (λ n. rw n (omega (arith, last_le k)))

  -- from there on no digest begins with the byte
  pub none_past : (k : ℕ) (j : ℕ) → last_of t byte k ≤ j → j < k → get_or (digest_at t j) 0 0 ≢ byte
  unfolding last_of
  none_past zero j l h = absurd (omega arith)
  none_past (suc k) j l h = by_test (eqb (get_or (digest_at t k) 0 0) byte)
      (λ y. let z : suc k ≤ j = rw y at l in absurd (omega arith))
      (λ n. let z : last_of t byte k ≤ j = rw n at l in elim (eq-or-lt_of_le (le_of_suc-le-suc h)) [
        | inl q ↦ rw q (eqb-false (get_or (digest_at t k) 0 0) byte n)
        | inr i ↦ none_past k j z i
      ])

-- so none is the digest that begins with it
pub not_past : (t d : Bytes) (k j : ℕ) → last_of t (get_or d 0 0) k ≤ j → j < k → has_digest (view_of t) d j ≡ false
not_past t d k j l h = other_same (digest_at t j) d (λ q. none_past t (get_or d 0 0) k j l h (ap (λ (b : Bytes). get_or b 0 0) q))

-- in a table in form, a place that holds the digest is its place
pub only_place : (t d : Bytes) (j : ℕ) → in_form t ≡ true → j < count_of t → has_digest (view_of t) d j ≡ true → place_of (view_of t) (count_of t) d ≡ j
only_place t d j f h y = first_hit (has_digest (view_of t) d) j (count_of t) h
    (first_nowhere (has_digest (view_of t) d) j (λ i l. other_same (digest_at t i) d (λ q. lower i l (one_place t f i j (omega arith) h (q ∙ sym (same_equal (digest_at t j) d y)))))) y
  where
    lower : (i : ℕ) → i < j → i ≡ j → ⊥
    lower i l e = omega arith
