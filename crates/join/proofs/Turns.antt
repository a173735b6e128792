-- One turn of the loops over the references of a block, from the highest down: whether all stand at places of a mask, and the mask of where they
-- stand. Assumes nothing.
use mathlib.Core.Path.{◌≡◌, sym, ap, ◌∙◌}
use mathlib.Core.Bool.{Bool, true, false, not, ◌&&◌, ◌||◌}
use mathlib.Core.List.{List}
use Prim.Native.Nat.{ℕ, suc, ◌-◌, ◌^◌, ◌≤◌, ◌<◌}
use native.Mathlib.Nat.{pow-suc}
use native.Mathlib.Decide.{dec_lt}
use native.Mathlib.Omega.{arith}
use lib.Bits.{bit_or, or_lt}
use lib.Dec.{eqb}
use lib.ListN.{get_or}
use lib.Pow.{pow_mono, pow_pos}
use Rattle.base.specs.Search.{any_below}
use Rattle.base.specs.Mask.{in_mask}
use Rattle.base.proofs.Tests.{true_not_false, or_assoc, or_false}
use Rattle.base.proofs.Sets.{mask_or, mask_same, mask_members, one_in_lem}
use Rattle.base.proofs.TopPlace.{not_in, lower_in, any_highest, any_no_place}
use Rattle.table.specs.View.{max_places}
use Rattle.join.specs.Steps.{renumbered_by}

-- ---- whether one of these references fails a test

abbrev pub some_fails : ℕ → (ℕ → Bool) → Bool
some_fails references f = any_below (λ k. in_mask references k && not (f k)) max_places

pub none_fails : (f : ℕ → Bool) → some_fails 0 f ≡ false
none_fails f = any_no_place (λ k. not (f k)) max_places

-- ---- where one of these references stands

abbrev pub some_at : ℕ → List ℕ → ℕ → Bool
some_at references places p = any_below (λ k. in_mask references k && eqb (get_or places k 0) p) max_places

-- the mask has where the references passed stand, those left aside
pub record Marking (references : ℕ) (places : List ℕ) (mask left : ℕ) : Type 0 where
  pub wide : mask < 2 ^ max_places
  pub among : (k : ℕ) → in_mask left k ≡ true → in_mask references k ≡ true
  pub is : (p : ℕ) → p < max_places → (in_mask mask p || some_at left places p) ≡ some_at references places p

pub marking_ends : (references : ℕ) (places : List ℕ) (mask : ℕ) → Marking references places mask 0 → mask ≡ renumbered_by references places
marking_ends references places mask a =
    sym (mask_members max_places mask a.wide)
    ∙ mask_same (in_mask mask) (some_at references places) max_places
    (λ p h. sym (ap (λ (t : Bool). in_mask mask p || t) (any_no_place (λ k. eqb (get_or places k 0) p) max_places) ∙ or_false (in_mask mask p)) ∙ a.is p h)

-- ---- a turn

module _ (m j : ℕ) (low : j < max_places) (from : 2 ^ j ≤ m) (to : m < 2 ^ suc j) where
  pub fails_here : (f : ℕ → Bool) → f j ≡ false → some_fails m f ≡ true
  fails_here f n = any_highest m j from to (λ k. not (f k)) max_places low ∙ rw n

  pub fails_later : (f : ℕ → Bool) → f j ≡ true → some_fails (m - 2 ^ j) f ≡ some_fails m f
  fails_later f y = sym (any_highest m j from to (λ k. not (f k)) max_places low ∙ rw y)

  pub marking_next : (references : ℕ) (places : List ℕ) (mask q : ℕ) → Marking references places mask m → q ≡ get_or places j 0 → q < max_places
      → Marking references places (bit_or mask (2 ^ q)) (m - 2 ^ j)
  marking_next references places mask q a e h =
      record {
        wide = or_lt max_places mask (2 ^ q) a.wide (omega (arith, pow_pos q, pow-suc 2 q, pow_mono {i = suc q} {j = max_places} h));
        among = λ k y. elim (dec_lt k j) [
          | yes l ↦ a.among k (lower_in m j from to k l ∙ y)
          | no n ↦ true_not_false y (not_in (m - 2 ^ j) k (omega (arith, pow-suc 2 j, pow_mono {i = j} {j = k} (omega arith))))
        ];
        is = λ p l.
            ap (λ (t : Bool). t || some_at (m - 2 ^ j) places p) (mask_or mask (2 ^ q) p ∙ ap (λ (t : Bool). in_mask mask p || t) (one_in_lem q p ∙ ap (λ (x : ℕ). eqb x p) e))
            ∙ or_assoc (in_mask mask p) (eqb (get_or places j 0) p) (some_at (m - 2 ^ j) places p)
            ∙ ap (λ (t : Bool). in_mask mask p || t) (sym (any_highest m j from to (λ k. eqb (get_or places k 0) p) max_places low))
            ∙ a.is p l;
      }
