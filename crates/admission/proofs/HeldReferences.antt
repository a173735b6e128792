-- A block's references among what is held: the searches over the list as the code hands it on are those of the definition, and the mask of
-- the places listed is the row's set. Assumes nothing.
use mathlib.Core.Path.{◌≡◌, ap, ◌∙◌}
use mathlib.Core.Bool.{◌&&◌}
use Prim.Native.Nat.{ℕ}
use native.Mathlib.Decide.{dec_lt}
use native.Mathlib.Omega.{arith}
use lib.Dec.{ltb}
use borrow.Author.Tests.{lt-ltb, le-ltb}
use Rattle.base.specs.Search.{first_below, any_below}
use Rattle.base.specs.Mask.{in_mask}
use Rattle.base.specs.Bytes.{Bytes, same_bytes}
use Rattle.base.proofs.Sets.{mask_has, mask_has_not}
use Rattle.block.specs.Layout.{reference_count, reference_list, reference_at}
use Rattle.block.specs.Promises.{Shaped}
use Rattle.block.proofs.Shape.{references_counted}
use Rattle.table.specs.View.{View}
use Rattle.table.specs.Layout.{count_of, digest_at}
use Rattle.admission.specs.Admission.{lists, missing}
use Rattle.admission.specs.Steps.{among, first_missing, places_listed}

module _ (b : Bytes) (shape : Shaped b) where
  pub among_lists : (d : Bytes) → among (reference_list b) d ≡ lists b d
  among_lists d = ap (any_below (λ i. same_bytes (reference_at (reference_list b) i) d)) (references_counted b shape)

  pub first_missing_lem : (v : View) → first_missing v v.held (reference_list b) ≡ first_below (missing v b) (reference_count b)
  first_missing_lem v = ap (first_below (missing v b)) (references_counted b shape)

  -- the mask of the places listed has those held that the block lists
  pub listed : (t : Bytes) (j : ℕ) → in_mask (places_listed t (count_of t) (reference_list b)) j ≡ (ltb j (count_of t) && lists b (digest_at t j))
  listed t j = elim (dec_lt j (count_of t)) [
    | yes h ↦ rw (lt-ltb j (count_of t) h) (mask_has (λ j. among (reference_list b) (digest_at t j)) (count_of t) j h ∙ among_lists (digest_at t j))
    | no n ↦ rw (le-ltb j (count_of t) (omega arith)) (mask_has_not (λ j. among (reference_list b) (digest_at t j)) (count_of t) j (omega arith))
  ]
