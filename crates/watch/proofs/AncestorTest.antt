-- Where every held place refers only to lower places, the test whether one place is an ancestor of another says what the relation says: an
-- ancestor is lower, so as many references as there are places reach it. Assumes nothing.
use mathlib.Core.Path.{◌≡◌, refl, sym, ◌∙◌}
use mathlib.Core.Bool.{true, or-true, ◌&&◌}
use mathlib.Core.Logic.{◌↔◌, inl, inr}
use Prim.Native.Nat.{ℕ, zero, suc, ◌≤◌, ◌<◌}
use native.Mathlib.Decide.{dec_lt}
use native.Mathlib.Omega.{arith}
use Rattle.base.specs.Mask.{in_mask}
use Rattle.base.proofs.Tests.{true_not_false, and_left, and_right, or_cases}
use Rattle.base.proofs.Search.{any_true, any_true_at}
use Rattle.base.proofs.Sets.{mask_has, mask_has_not}
use Rattle.table.specs.View.{max_places, View}
use Rattle.watch.specs.Ancestors.{reached, is_ancestor, PlaceAncestor, direct, further, ancestor_mask}

-- every held place refers only to lower places
abbrev pub RefersLower : View → Type 0
RefersLower v = (i : ℕ) → i < v.held → (j : ℕ) → j < max_places → (v.row i).refers_to j ≡ true → j < i

-- an ancestor is held
pub ancestor_held : (v : View) (a i : ℕ) → PlaceAncestor v a i → a < v.held
ancestor_held v a i (direct h r) = h
ancestor_held v a i (further {c} p h r) = ancestor_held v a c p

module _ (v : View) (fits : v.held ≤ max_places) (lower : RefersLower v) where
  -- and lower
  pub ancestor_lower : (a i : ℕ) → i < v.held → PlaceAncestor v a i → a < i
  ancestor_lower a i l (direct h r) = lower i l a (omega arith) r
  ancestor_lower a i l (further {c} p h r) =
      let below : c < i = lower i l c (omega arith) r in
      omega (arith, ancestor_lower a c h p)

  reached_ancestor : (k i a : ℕ) → i < v.held → a < max_places → reached v k i a ≡ true → PlaceAncestor v a i
  unfolding reached
  reached_ancestor zero i a l s e = true_not_false e refl
  reached_ancestor (suc k) i a l s e = elim (or_cases ((v.row i).refers_to a) _ e) [
    | inl r ↦ let h : a < v.held = omega (arith, lower i l a s r) in direct h r
    | inr e ↦
        let w = any_true_at (λ c. (v.row i).refers_to c && reached v k c a) v.held e in
        let c : ℕ = w.0 in
        let p : PlaceAncestor v a c = reached_ancestor k c a w.1 s (and_right ((v.row i).refers_to c) (reached v k c a) w.2) in
        further p w.1 (and_left ((v.row i).refers_to c) (reached v k c a) w.2)
  ]

  ancestor_reached : (k i a : ℕ) → i < v.held → i ≤ k → PlaceAncestor v a i → reached v k i a ≡ true
  unfolding reached
  ancestor_reached zero i a l s p = absurd (omega (arith, ancestor_lower a i l p))
  ancestor_reached (suc k) i a l s (direct h r) = rw r
  ancestor_reached (suc k) i a l s (further {c} p h r) =
      let below : c < i = lower i l c (omega arith) r in
      rw (any_true (λ c. (v.row i).refers_to c && reached v k c a) v.held c h (rw (r, ancestor_reached k c a h (omega arith) p))) (or-true ((v.row i).refers_to a))

  pub ancestor_is : (i a : ℕ) → i < v.held → a < max_places → (is_ancestor v i a ≡ true) ↔ PlaceAncestor v a i
  ancestor_is i a l s = (reached_ancestor v.held i a l s, ancestor_reached v.held i a l (omega arith))

  -- the bits of the mask are the ancestors
  pub ancestor_bit : (i a : ℕ) → i < v.held → (in_mask (ancestor_mask v i) a ≡ true) ↔ PlaceAncestor v a i
  ancestor_bit i a l = (
    λ e. elim (dec_lt a v.held) [
      | yes h ↦ (ancestor_is i a l (omega arith)).0 (sym (mask_has (is_ancestor v i) v.held a h) ∙ e)
      | no n ↦ true_not_false e (mask_has_not (is_ancestor v i) v.held a (omega arith))
    ],
    λ p. let h = ancestor_held v a i p in mask_has (is_ancestor v i) v.held a h ∙ (ancestor_is i a l (omega arith)).1 p,
  )
