-- The turns of the loop that looks up the references of a list: the mask of the places that hold the references passed, and the first of these
-- references that is missing. In a table in form a reference has one place at most. Assumes nothing.
use mathlib.Core.Path.{◌≡◌, sym, ap, ◌∙◌}
use mathlib.Core.Bool.{Bool, true, false, not}
use Prim.Native.Nat.{ℕ, ◌+◌, ◌*◌, ◌%◌, ◌^◌, ◌≤◌, ◌<◌}
use native.Mathlib.Omega.{arith}
use lib.Bits.{bit_or}
use lib.Dec.{eqb}
use borrow.Author.Tests.{eq-eqb, eqb-true}
use Rattle.base.specs.Search.{any_below}
use Rattle.base.specs.Mask.{mask_below}
use Rattle.base.specs.Bytes.{Bytes, same_bytes}
use Rattle.base.proofs.Tests.{same_tests}
use Rattle.base.proofs.Search.{first_passes, first_before, any_found, any_missed}
use Rattle.base.proofs.Sets.{some_put, some_skip}
use Rattle.base.proofs.Bytes.{same_equal, equal_same, other_same, same_other}
use Rattle.block.specs.Layout.{reference_at}
use Rattle.table.specs.Layout.{count_of, digest_at, view_of}
use Rattle.table.specs.Rules.{has_digest, place_of}
use Rattle.table.specs.Form.{in_form}
use Rattle.table.proofs.InForm.{formed_places}
use Rattle.table.proofs.DigestIndex.{only_place}

-- whether reference i of the list is the digest at place j
abbrev pub names : Bytes → Bytes → ℕ → ℕ → Bool
names t list j i = same_bytes (reference_at list i) (digest_at t j)

-- the places below k that the first i references of the list name
abbrev pub named_by : Bytes → ℕ → Bytes → ℕ → ℕ
named_by t k list i = mask_below (λ j. any_below (names t list j) i) k

-- one reference more: its place is put in, or it has none
module _ (t list : Bytes) (i place : ℕ) (f : in_form t ≡ true) (e : place ≡ place_of (view_of t) (count_of t) (reference_at list i)) where
  abbrev r : Bytes
  r = reference_at list i

  pub named_put : place < count_of t → bit_or (named_by t (count_of t) list i) (1 * 2 ^ place % 2 ^ 64) ≡ named_by t (count_of t) list (i + 1)
  named_put h = some_put (names t list) 64 (count_of t) i place (formed_places t f) h here
    where
      holds : digest_at t place ≡ r
      holds = same_equal (digest_at t place) r (ap (has_digest (view_of t) r) e ∙ first_passes (has_digest (view_of t) r) (count_of t) (omega arith))

      here : (j : ℕ) → j < count_of t → eqb place j ≡ same_bytes r (digest_at t j)
      here j l = same_tests (eqb place j) (same_bytes r (digest_at t j))
          (λ y. equal_same r (digest_at t j) (sym holds ∙ ap (digest_at t) (eqb-true place j y)))
          (λ y. eq-eqb place j (e ∙ only_place t r j f l (equal_same (digest_at t j) r (sym (same_equal r (digest_at t j) y)))))

  pub named_skip : count_of t ≤ place → named_by t (count_of t) list i ≡ named_by t (count_of t) list (i + 1)
  named_skip h = some_skip (names t list) (count_of t) i none
    where
      none : (j : ℕ) → j < count_of t → same_bytes r (digest_at t j) ≡ false
      none j l = other_same r (digest_at t j) (λ q. same_other (digest_at t j) r (first_before (has_digest (view_of t) r) (count_of t) j (omega arith)) (sym q))

-- ---- the first missing reference

-- reference i of the list is held at none of the places below k
abbrev pub absent : Bytes → ℕ → Bytes → ℕ → Bool
absent t k list i = not (any_below (has_digest (view_of t) (reference_at list i)) k)

-- what the place found says of it
module _ (t : Bytes) (k : ℕ) (list : Bytes) (i place : ℕ) (e : place ≡ place_of (view_of t) k (reference_at list i)) where
  pub is_absent : k ≤ place → absent t k list i ≡ true
  is_absent h = ap not (any_missed _ place k e h)

  pub is_there : place < k → absent t k list i ≡ false
  is_there h = ap not (any_found _ place k e h)
