-- The places that the next block refers to: at most 16, all held, all different. A place of the site itself among them holds its greatest block, and
-- where the site has a held block, a greatest block comes first. The places of other sites come in place order: where one is picked, so is each lower
-- place that may be. Assumes nothing.
use mathlib.Core.Path.{◌≡◌, sym, ap, ◌∙◌}
use mathlib.Core.Bool.{Bool, true, not, ◌&&◌}
use mathlib.Core.Logic.{◌≢◌, ◌⊎◌, inl, inr}
use mathlib.Core.List.Memᴰ
use mathlib.Core.List.{List, ◌++◌, Memᴰ}
use Prim.Native.Nat.{ℕ, ◌≤◌, ◌<◌}
use native.Mathlib.Decide.{dec_lt}
use native.Mathlib.Omega.{arith}
use lib.Dec.{eqb}
use lib.ListN.{length, get_or, length-append, length-take, get_or-append}
use lib.Seq.{get_or-take}
use borrow.Author.Tests.{eqb-false, not-true}
use Rattle.base.specs.List.{passing_below}
use Rattle.base.proofs.Tests.{and_left, and_right}
use Rattle.base.proofs.Members.{at_member, member_at}
use Rattle.base.proofs.PassingBelow.{passing_has, passing_from, passing_rises, Pairwise, pairwise_append, pairwise_take}
use Rattle.block.specs.Limits.{max_references}
use Rattle.table.specs.View.{View}
use Rattle.build.specs.Building.{next_sequence, is_greatest, is_referred, is_other, picked}
use Rattle.build.proofs.Sequence.{greatest_site, some_greatest}

module _ (seen : ℕ → Bool) (v : View) (p : ℕ) where
  -- entry i of the list
  abbrev pub picked_at : ℕ → ℕ
  picked_at i = get_or (picked seen v p) i 0

  abbrev greatest : List ℕ
  greatest = passing_below (is_greatest seen v p) v.held

  abbrev others : List ℕ
  others = passing_below (is_other seen v p) v.held

  other_site_lem : (i : ℕ) → is_other seen v p i ≡ true → (v.row i).site ≢ p
  other_site_lem i y =
      let other : (seen i && not (eqb (v.row i).site p)) ≡ true = and_left (seen i && not (eqb (v.row i).site p)) (not (is_referred seen v p i)) y in
      eqb-false _ _ (not-true _ (and_right (seen i) (not (eqb (v.row i).site p)) other))

  -- the site's greatest is none of the others
  greatest_apart : (x : ℕ) → Memᴰ x greatest → is_other seen v p x ≡ true → ⊥
  greatest_apart x m y = other_site_lem x y (greatest_site seen v p x (passing_from (is_greatest seen v p) v.held x m).1)

  pub picked_few : length (picked seen v p) ≤ max_references
  unfolding picked
  picked_few = omega (arith, length-take max_references (greatest ++ others))

  -- they are the front of the two lists
  front_at : (i : ℕ) → i < length (picked seen v p) → picked_at i ≡ get_or (greatest ++ others) i 0
  unfolding picked
  front_at i h = get_or-take max_references (greatest ++ others) i 0 (omega (arith, length-take max_references (greatest ++ others)))

  -- each is of one of the two lists
  picked_cases : (i : ℕ) → i < length (picked seen v p) → Memᴰ (picked_at i) greatest ⊎ Memᴰ (picked_at i) others
  unfolding picked
  picked_cases i h =
      let l = length-take max_references (greatest ++ others) in
      Memᴰ.append_cases greatest (Memᴰ.cast (front_at i h) (at_member (greatest ++ others) i 0 (omega arith)))

  pub picked_held : (i : ℕ) → i < length (picked seen v p) → picked_at i < v.held
  picked_held i h = elim (picked_cases i h) [
    | inl m ↦ (passing_from (is_greatest seen v p) v.held _ m).0
    | inr m ↦ (passing_from (is_other seen v p) v.held _ m).0
  ]

  pub picked_own : (i : ℕ) → i < length (picked seen v p) → (v.row (picked_at i)).site ≡ p → is_greatest seen v p (picked_at i) ≡ true
  picked_own i h e = elim (picked_cases i h) [
    | inl m ↦ (passing_from (is_greatest seen v p) v.held _ m).1
    | inr m ↦ absurd (other_site_lem _ (passing_from (is_other seen v p) v.held _ m).1 e)
  ]

  picked_other : (i : ℕ) → i < length (picked seen v p) → (v.row (picked_at i)).site ≢ p → is_other seen v p (picked_at i) ≡ true
  picked_other i h n = elim (picked_cases i h) [
    | inl m ↦ absurd (n (greatest_site seen v p _ (passing_from (is_greatest seen v p) v.held _ m).1))
    | inr m ↦ (passing_from (is_other seen v p) v.held _ m).1
  ]

  pub picked_different : Pairwise ◌≢◌ (picked seen v p)
  unfolding picked
  picked_different =
      pairwise_take ◌≢◌ max_references (greatest ++ others) (pairwise_append ◌≢◌ greatest others (different (is_greatest seen v p)) (different (is_other seen v p)) apart)
    where
      different : (f : ℕ → Bool) → Pairwise ◌≢◌ (passing_below f v.held)
      different f i j h l e = omega (arith, passing_rises f v.held i j h l)

      apart : (x y : ℕ) → Memᴰ x greatest → Memᴰ y others → x ≢ y
      apart x y m n e = greatest_apart x m (ap (is_other seen v p) e ∙ (passing_from (is_other seen v p) v.held y n).1)

  -- "its greatest block first"
  pub greatest_first : next_sequence seen v p ≢ 0 → (0 < length (picked seen v p)) × (is_greatest seen v p (picked_at 0) ≡ true)
  unfolding picked
  greatest_first n =
      let w = some_greatest seen v p n in
      let u = member_at greatest w.0 0 (passing_has (is_greatest seen v p) v.held w.0 w.1 w.2) in
      let some : 0 < length greatest = omega (arith, u.1) in
      let first : picked_at 0 ≡ get_or greatest 0 0 = get_or-take max_references (greatest ++ others) 0 0 (omega arith) ∙ get_or-append greatest others 0 0 some in (
        omega (arith, length-append greatest others, length-take max_references (greatest ++ others)),
        ap (is_greatest seen v p) first ∙ (passing_from (is_greatest seen v p) v.held _ (at_member greatest 0 0 some)).1,
      )

  -- ---- "in place order"

  -- of two others the lower one comes first
  abbrev InOrder : ℕ → ℕ → Type 0
  InOrder x y = is_other seen v p x ≡ true → is_other seen v p y ≡ true → x < y

  in_order : Pairwise InOrder (greatest ++ others)
  in_order =
      pairwise_append InOrder greatest others
      (λ i j h l x y. absurd (greatest_apart _ (at_member greatest i 0 l) y))
      (λ i j h l x y. passing_rises (is_other seen v p) v.held i j h l)
      (λ x y m n z. absurd (greatest_apart x m z))

  -- where one of the others is picked, so is each that stands lower
  pub picked_lower : (i j : ℕ) → Memᴰ i (picked seen v p) → (v.row i).site ≢ p → j < i → is_other seen v p j ≡ true → Memᴰ j (picked seen v p)
  picked_lower i j m other h y = go (member_at (picked seen v p) i 0 m)
    where
      go : (k : ℕ) × (k < length (picked seen v p)) × (picked_at k ≡ i) → Memᴰ j (picked seen v p)
      go (k, l, e) =
          let o : is_other seen v p i ≡ true = rw e at (picked_other k l (rw e other)) in
          let u = member_at (greatest ++ others) j 0
          (Memᴰ.append_right greatest (passing_has (is_other seen v p) v.held j (omega (arith, picked_held k l, e)) y)) in
          let here : get_or (greatest ++ others) k 0 ≡ i = sym (front_at k l) ∙ e in
          elim (dec_lt u.0 k) [
            | yes d ↦ let low : u.0 < length (picked seen v p) = omega arith in
                Memᴰ.cast (sym u.2 ∙ sym (front_at u.0 low)) (at_member (picked seen v p) u.0 0 low)
            | no n ↦ elim (dec_lt k u.0) [
              | yes d ↦ let rises : i < j = rw (here, u.2) at (in_order u.0 k d u.1 (rw here o) (rw u.2 y)) in absurd (omega arith)
              | no q ↦ let same : u.0 ≡ k = omega arith in
                  let equal : i ≡ j = sym here ∙ ap (λ (x : ℕ). get_or (greatest ++ others) x 0) (sym same) ∙ u.2 in absurd (omega arith)
            ]
          ]
