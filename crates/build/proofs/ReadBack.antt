-- What the bytes of a block show, where they read to a content: its references in their order, and so when a digest is among them.
-- Assumes nothing.
use mathlib.Core.Path.{◌≡◌, sym, ap, ◌∙◌, subst}
use mathlib.Core.Bool.{true}
use mathlib.Core.List.{[], Memᴰ}
use Prim.Native.Nat.{ℕ, ◌<◌}
use native.Mathlib.Omega.{arith}
use lib.ListN.{length, get_or}
use Rattle.base.specs.Bytes.{Bytes}
use Rattle.base.proofs.Members.{at_member, member_at}
use Rattle.block.specs.Layout.{Content, reference_count, reference_list, reference_at, content, content_of}
use Rattle.block.specs.Reading.{fields_of}
use Rattle.block.specs.Codec.{Reads}
use Rattle.block.specs.Promises.{Shaped}
use Rattle.block.proofs.Lists.{references_length, references_at_lem}
use Rattle.block.proofs.Shape.{references_counted}
use Rattle.block.proofs.Acceptance.{reading_accepted}
use Rattle.admission.specs.Admission.{lists}
use Rattle.admission.proofs.ReferenceList.{lists_member, member_lists}

module _ (b : Bytes) (c : Content) (r : Reads b c) where
  shape : Shaped b
  shape = (reading_accepted b (fields_of b) r.accepted).accepted.shape

  pub shown_count : reference_count b ≡ length c.references
  unfolding content_of content
  shown_count = sym (references_length (reference_list b) ∙ references_counted b shape) ∙ ap (λ (x : Content). length x.references) r.content

  pub shown_reference : (i : ℕ) → i < reference_count b → reference_at (reference_list b) i ≡ get_or c.references i []
  unfolding content_of content
  shown_reference i h =
      sym (references_at_lem (reference_list b) i (omega (arith, references_counted b shape))) ∙ ap (λ (x : Content). get_or x.references i []) r.content

  -- a listed digest is a reference, and each reference is listed
  pub listed_reference : (d : Bytes) → lists b d ≡ true → (i : ℕ) × (i < length c.references) × (get_or c.references i [] ≡ d)
  unfolding content_of content
  listed_reference d y = member_at c.references d [] (subst (λ (x : Content). Memᴰ d x.references) r.content (lists_member b shape d y))

  pub reference_listed : (i : ℕ) → i < length c.references → lists b (get_or c.references i []) ≡ true
  unfolding content_of content
  reference_listed i h = member_lists b shape (get_or c.references i [])
      (subst (λ (x : Content). Memᴰ (get_or c.references i []) x.references) (sym r.content) (at_member c.references i [] h))
