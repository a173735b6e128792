-- The references of a block as a list, and the test whether a digest is among them. Assumes nothing.
use mathlib.Core.Path.{◌≡◌, sym, ap, ◌∙◌}
use mathlib.Core.Bool.{true}
use mathlib.Core.List.Memᴰ
use mathlib.Core.List.{Memᴰ}
use Prim.Native.Nat.{ℕ, ◌<◌}
use Rattle.base.specs.Bytes.{Bytes, same_bytes, parts}
use Rattle.base.specs.List.{list_below}
use Rattle.base.proofs.Search.{any_true, any_true_at}
use Rattle.base.proofs.Bytes.{same_equal, equal_same}
use Rattle.base.proofs.Parts.{parts_list}
use Rattle.base.proofs.Members.{list_has, list_from}
use Rattle.block.specs.Limits.{reference_size}
use Rattle.block.specs.Layout.{reference_count, reference_list, reference_at, references_of}
use Rattle.block.specs.Promises.{Shaped}
use Rattle.block.proofs.Shape.{references_counted}
use Rattle.admission.specs.Admission.{lists}

module _ (b : Bytes) (shape : Shaped b) where
  references_are : references_of b ≡ list_below (reference_at (reference_list b)) (reference_count b)
  references_are =
      ap (λ (k : ℕ). parts k reference_size (reference_list b)) (references_counted b shape)
      ∙ parts_list (reference_count b) reference_size (reference_list b)

  -- each has an index, and each index one
  pub reference_from : (r : Bytes) → Memᴰ r (references_of b) → (i : ℕ) × (i < reference_count b) × (r ≡ reference_at (reference_list b) i)
  reference_from r m = list_from (reference_at (reference_list b)) (reference_count b) r (rw references_are at m)

  pub reference_has : (i : ℕ) → i < reference_count b → Memᴰ (reference_at (reference_list b) i) (references_of b)
  reference_has i h = rw references_are (list_has (reference_at (reference_list b)) (reference_count b) i h)

  pub lists_member : (d : Bytes) → lists b d ≡ true → Memᴰ d (references_of b)
  lists_member d e =
      let w = any_true_at (λ i. same_bytes (reference_at (reference_list b) i) d) (reference_count b) e in
      Memᴰ.cast (sym (same_equal _ _ w.2)) (reference_has w.0 w.1)

  pub member_lists : (d : Bytes) → Memᴰ d (references_of b) → lists b d ≡ true
  member_lists d m =
      let w = reference_from d m in
      any_true (λ i. same_bytes (reference_at (reference_list b) i) d) (reference_count b) w.0 w.1 (equal_same _ _ (sym w.2))
