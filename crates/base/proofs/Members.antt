-- An element of a list and its index; and the elements of a list of values below a bound, with the highest first or last. Assumes nothing.
use mathlib.Core.Path.{◌≡◌, refl, sym, ap, ap₂, ◌∙◌}
use mathlib.Core.Logic.{inl, inr}
use mathlib.Core.List.Memᴰ
use mathlib.Core.List.{List, [], ◌∷◌, ◌++◌, map, Memᴰ}
use Prim.Native.Nat.{ℕ, zero, suc, ◌-◌, ◌<◌, suc-le-suc}
use native.Mathlib.Nat.{eq-or-lt_of_le, le_of_suc-le-suc}
use native.Mathlib.Omega.{arith}
use lib.ListN.{length, get_or, drop}
use Rattle.base.specs.List.{list_below}

module _ {A : Type 0} where
  -- each index has an element, and each element an index
  pub at_member : (l : List A) (i : ℕ) (d : A) → i < length l → Memᴰ (get_or l i d) l
  at_member [] i d h = absurd (omega arith)
  at_member (x ∷ l) zero d h = Memᴰ.head refl
  at_member (x ∷ l) (suc i) d h = Memᴰ.tail (at_member l i d (le_of_suc-le-suc h))

  pub member_at : (l : List A) (x d : A) → Memᴰ x l → (i : ℕ) × (i < length l) × (get_or l i d ≡ x)
  member_at [] x d m = absurd (Memᴰ.not-nil m)
  member_at (y ∷ l) x d m = elim (Memᴰ.cases_cons m) [
    | inl q ↦ (0, omega arith, sym q)
    | inr j ↦ let w = member_at l x d j in (suc w.0, suc-le-suc w.1, w.2)
  ]

  -- what stands behind the first stands in the list
  pub member_behind : (l : List A) (x : A) → Memᴰ x (drop 1 l) → Memᴰ x l
  member_behind [] x m = m
  member_behind (y ∷ l) x m = Memᴰ.tail m

  pub list_has : (f : ℕ → A) (k i : ℕ) → i < k → Memᴰ (f i) (list_below f k)
  unfolding list_below
  list_has f zero i h = absurd (omega arith)
  list_has f (suc k) zero h = Memᴰ.head refl
  list_has f (suc k) (suc i) h = Memᴰ.tail (list_has (λ i. f (suc i)) k i (le_of_suc-le-suc h))

  pub list_from : (f : ℕ → A) (k : ℕ) (x : A) → Memᴰ x (list_below f k) → (i : ℕ) × (i < k) × (x ≡ f i)
  unfolding list_below
  list_from f zero x m = absurd (Memᴰ.not-nil m)
  list_from f (suc k) x m = elim (Memᴰ.cases_cons m) [
    | inl q ↦ (0, omega arith, q)
    | inr j ↦ let w = list_from (λ i. f (suc i)) k x j in (suc w.0, suc-le-suc w.1, w.2)
  ]

  -- f (k - 1), .. down to f 0
  unfoldable pub newest : (ℕ → A) → ℕ → List A
  newest f zero = []
  newest f (suc k) = f k ∷ newest f k

  pub newest_has : (f : ℕ → A) (k i : ℕ) → i < k → Memᴰ (f i) (newest f k)
  unfolding newest
  newest_has f zero i h = absurd (omega arith)
  newest_has f (suc k) i h = elim (eq-or-lt_of_le (le_of_suc-le-suc h)) [
    | inl q ↦ Memᴰ.head (ap f q)
    | inr l ↦ Memᴰ.tail (newest_has f k i l)
  ]

  pub newest_from : (f : ℕ → A) (k : ℕ) (x : A) → Memᴰ x (newest f k) → (i : ℕ) × (i < k) × (x ≡ f i)
  unfolding newest
  newest_from f zero x m = absurd (Memᴰ.not-nil m)
  newest_from f (suc k) x m = elim (Memᴰ.cases_cons m) [
    | inl q ↦ (k, omega arith, q)
    | inr j ↦ let w = newest_from f k x j in (w.0, omega (arith, w.1), w.2)
  ]

  pub newest_same : (f g : ℕ → A) (k : ℕ) → ((i : ℕ) → i < k → f i ≡ g i) → newest f k ≡ newest g k
  unfolding newest
  newest_same f g zero h = refl
  newest_same f g (suc k) h = ap₂ (λ (x : A) (l : List A). x ∷ l) (h k (omega arith)) (newest_same f g k (λ i l. h i (omega arith)))

  -- the first stands last
  newest_first : (f : ℕ → A) (k : ℕ) (rest : List A) → newest f (suc k) ++ rest ≡ newest (λ i. f (suc i)) k ++ (f 0 ∷ rest)
  unfolding newest
  newest_first f zero rest = refl
  newest_first f (suc k) rest = ap (λ (l : List A). f (suc k) ∷ l) (newest_first f k rest)

  pub newest_all : (f : ℕ → A) (k : ℕ) (rest : List A) → 0 < k → newest f k ++ rest ≡ newest (λ i. f (suc i)) (k - 1) ++ (f 0 ∷ rest)
  newest_all f k rest h =
      let n : k ≡ suc (k - 1) = omega arith in
      ap (λ (m : ℕ). newest f m ++ rest) n ∙ newest_first f (k - 1) rest

  pub newest_last : (f : ℕ → A) (k : ℕ) → 0 < k → newest f k ≡ f (k - 1) ∷ newest f (k - 1)
  unfolding newest
  newest_last f zero h = absurd (omega arith)
  newest_last f (suc k) h = let n : suc k - 1 ≡ k = omega arith in rw n

pub map_newest : {A B : Type 0} (f : A → B) (g : ℕ → A) (k : ℕ) (rest : List A) → map f (newest g k ++ rest) ≡ newest (λ i. f (g i)) k ++ map f rest
unfolding newest
map_newest f g zero rest = refl
map_newest {B = B} f g (suc k) rest = ap (λ (l : List B). f (g k) ∷ l) (map_newest f g k rest)
