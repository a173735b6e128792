-- What the blocks of a site refer to, gathered place by place. Assumes nothing.
use mathlib.Core.Path.{◌≡◌, refl, sym, ◌∙◌}
use mathlib.Core.Bool.{Bool, true, false, ◌&&◌, or-false}
use Prim.Native.Nat.{ℕ, ◌+◌, ◌^◌, ◌<◌}
use lib.Bits.{bit_or}
use Rattle.base.specs.Search.{first_below, any_below}
use Rattle.base.specs.Mask.{mask_below, in_mask}
use Rattle.base.specs.Bytes.{Bytes}
use Rattle.base.proofs.Search.{any_more}
use Rattle.base.proofs.Sets.{mask_join, mask_same}
use Rattle.table.specs.View.{max_places}
use Rattle.table.specs.Layout.{references_at, row_at, view_of}
use Rattle.watch.specs.Forks.{of_site}

module _ (t : Bytes) (seen p : ℕ) where
  -- a block of the site at place j refers to place i
  abbrev refers : ℕ → ℕ → Bool
  refers i j = of_site (view_of t) (in_mask seen) p j && (row_at t j).refers_to i

  -- what those at the places below k refer to
  abbrev pub referred_below : ℕ → ℕ
  referred_below k = mask_below (λ i. any_below (refers i) k) max_places

  pub referred_none : 0 ≡ referred_below 0
  unfolding mask_below any_below first_below
  referred_none = refl

  pub referred_here : (k : ℕ) → of_site (view_of t) (in_mask seen) p k ≡ true → references_at t k < 2 ^ max_places
      → bit_or (referred_below k) (references_at t k) ≡ referred_below (k + 1)
  referred_here k y h =
      mask_join max_places (λ i. any_below (refers i) k) (references_at t k) h
      ∙ mask_same _ (λ i. any_below (refers i) (k + 1)) max_places (λ i l. rw (any_more (refers i) k, y))

  pub referred_past : (k : ℕ) → of_site (view_of t) (in_mask seen) p k ≡ false → referred_below k ≡ referred_below (k + 1)
  referred_past k n = mask_same _ (λ i. any_below (refers i) (k + 1)) max_places (λ i l. rw (any_more (refers i) k, n) (sym (or-false (any_below (refers i) k))))
