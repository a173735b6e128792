-- Laws of the list of the numbers below a bound that pass a test: the turns of the loop that makes it, its elements, and that they rise. And
-- how a relation of each two elements of a list carries over to lists appended and to a list's front. Assumes nothing.
use mathlib.Core.Path.{◌≡◌, refl, sym, ap, ◌∙◌}
use mathlib.Core.Bool.{Bool, true, false, cond}
use mathlib.Core.Logic.{◌⊎◌, inl, inr}
use mathlib.Core.List.Memᴰ
use mathlib.Core.List.{List, [], ◌∷◌, ◌++◌, append-nil, Memᴰ}
use Prim.Native.Nat.{ℕ, zero, suc, ◌+◌, ◌-◌, ◌≤◌, ◌<◌}
use native.Mathlib.Nat.{eq-or-lt_of_le, le_of_suc-le-suc}
use native.Mathlib.Numerals.{add-one}
use native.Mathlib.Decide.{dec_lt}
use native.Mathlib.Omega.{arith}
use lib.ListN.{length, get_or, take, length-append, length-take, get_or-append}
use lib.Seq.{get_or-take, get_or-append-add}
use Rattle.base.specs.Count.{count_below}
use Rattle.base.specs.List.{passing_below}
use Rattle.base.proofs.Tests.{not_true_false}
use Rattle.base.proofs.Members.{at_member}

-- ---- the turns of the loop

module _ (f : ℕ → Bool) where
  pub passing_here : (k : ℕ) → f k ≡ true → passing_below f (k + 1) ≡ passing_below f k ++ (k ∷ [])
  unfolding passing_below
  passing_here k y = rw (add-one k, y)

  pub passing_past : (k : ℕ) → f k ≡ false → passing_below f (k + 1) ≡ passing_below f k
  unfolding passing_below
  passing_past k n = rw (add-one k, n) (append-nil (passing_below f k))

-- it is as long as the count
pub passing_length : (f : ℕ → Bool) (k : ℕ) → length (passing_below f k) ≡ count_below f k
unfolding passing_below count_below
passing_length f zero = refl
passing_length f (suc k) = length-append (passing_below f k) (cond (f k) (k ∷ []) []) ∙ go (f k) (passing_length f k)
  where
    go : (t : Bool) → length (passing_below f k) ≡ count_below f k → length (passing_below f k) + length (cond t (k ∷ []) []) ≡ cond t 1 0 + count_below f k
    go true e = omega arith
    go false e = omega arith

-- tests that agree below k have one list
pub passing_same : (f g : ℕ → Bool) (k : ℕ) → ((j : ℕ) → j < k → f j ≡ g j) → passing_below f k ≡ passing_below g k
unfolding passing_below
passing_same f g zero h = refl
passing_same f g (suc k) h = rw (passing_same f g k (λ j l. h j (omega arith)), h k (omega arith))

-- ---- the elements

module _ (f : ℕ → Bool) where
  pub passing_has : (k i : ℕ) → i < k → f i ≡ true → Memᴰ i (passing_below f k)
  unfolding passing_below
  passing_has zero i h y = absurd (omega arith)
  passing_has (suc k) i h y = elim (eq-or-lt_of_le (le_of_suc-le-suc h)) [
    | inl q ↦ let z : f k ≡ true = ap f (sym q) ∙ y in rw z (Memᴰ.append_right (passing_below f k) (Memᴰ.head q))
    | inr l ↦ Memᴰ.append_left (cond (f k) (k ∷ []) []) (passing_has k i l y)
  ]

  pub passing_from : (k i : ℕ) → Memᴰ i (passing_below f k) → (i < k) × (f i ≡ true)
  unfolding passing_below
  passing_from zero i m = absurd (Memᴰ.not-nil m)
  passing_from (suc k) i m = go (f k) refl (Memᴰ.append_cases (passing_below f k) m) (λ n. passing_from k i n)
    where
      go : (t : Bool) → f k ≡ t → Memᴰ i (passing_below f k) ⊎ Memᴰ i (cond t (k ∷ []) []) → (Memᴰ i (passing_below f k) → (i < k) × (f i ≡ true))
          → (i < suc k) × (f i ≡ true)
      go t q (inl n) ih = let w = ih n in (omega (arith, w.0), w.1)
      go true q (inr n) ih = let e : i ≡ k = Memᴰ.eq_of_singleton n in (omega arith, ap f e ∙ q)
      go false q (inr n) ih = absurd (Memᴰ.not-nil n)

-- where none passes, and where one alone does
pub passing_none : (f : ℕ → Bool) (k : ℕ) → ((i : ℕ) → i < k → f i ≡ false) → passing_below f k ≡ []
unfolding passing_below
passing_none f zero n = refl
passing_none f (suc k) n = rw (n k (omega arith), passing_none f k (λ i h. n i (omega arith)))

pub passing_one : (f : ℕ → Bool) (k j : ℕ) → j < k → f j ≡ true → ((i : ℕ) → i < k → f i ≡ true → i ≡ j) → passing_below f k ≡ j ∷ []
unfolding passing_below
passing_one f zero j h y one = absurd (omega arith)
passing_one f (suc k) j h y one = elim (eq-or-lt_of_le (le_of_suc-le-suc h)) [
  | inl q ↦
      let here : f k ≡ true = ap f (sym q) ∙ y in
      let none : passing_below f k ≡ [] = passing_none f k (λ i l. not_true_false (f i) (λ z. absurd (omega (arith, one i (omega arith) z)))) in
      rw (here, none) (ap (λ (i : ℕ). i ∷ []) (sym q))
  | inr l ↦
      let past : f k ≡ false = not_true_false (f k) (λ z. absurd (omega (arith, one k (omega arith) z))) in
      rw past (append-nil (passing_below f k) ∙ passing_one f k j l y (λ i m. one i (omega arith)))
]

-- ---- each two elements of a list are so related, in their order

module _ (R : ℕ → ℕ → Type 0) where
  abbrev pub Pairwise : List ℕ → Type 0
  Pairwise l = (i j : ℕ) → j < i → i < length l → R (get_or l j 0) (get_or l i 0)

  pub pairwise_append : (xs ys : List ℕ) → Pairwise xs → Pairwise ys → ((x y : ℕ) → Memᴰ x xs → Memᴰ y ys → R x y) → Pairwise (xs ++ ys)
  pairwise_append xs ys a b c i j h l = elim (dec_lt i (length xs)) [
    | yes p ↦ rw (get_or-append xs ys 0 i p, get_or-append xs ys 0 j (omega arith)) (a i j h p)
    | no n ↦ elim (dec_lt j (length xs)) [
      | yes p ↦ rw (get_or-append xs ys 0 j p, behind i (omega arith)) (c _ _ (at_member xs j 0 p) (at_member ys (i - length xs) 0 (omega (arith, length-append xs ys))))
      | no m ↦ rw (behind i (omega arith), behind j (omega arith)) (b (i - length xs) (j - length xs) (omega arith) (omega (arith, length-append xs ys)))
    ]
  ]
    where
      behind : (i : ℕ) → length xs ≤ i → get_or (xs ++ ys) i 0 ≡ get_or ys (i - length xs) 0
      behind i h = let e : i ≡ length xs + (i - length xs) = omega arith in ap (λ (n : ℕ). get_or (xs ++ ys) n 0) e ∙ get_or-append-add xs ys (i - length xs) 0

  pub pairwise_take : (n : ℕ) (l : List ℕ) → Pairwise l → Pairwise (take n l)
  pairwise_take n l a i j h k =
      rw (get_or-take n l i 0 (omega (arith, length-take n l)), get_or-take n l j 0 (omega (arith, length-take n l))) (a i j h (omega (arith, length-take n l)))

pub passing_rises : (f : ℕ → Bool) (k : ℕ) → Pairwise ◌<◌ (passing_below f k)
unfolding passing_below
passing_rises f zero = λ i j h l. absurd (omega arith)
passing_rises f (suc k) = pairwise_append ◌<◌ (passing_below f k) (cond (f k) (k ∷ []) []) (passing_rises f k) (one (f k)) (λ x y m n. last (f k) y n x (passing_from f k x m).0)
  where
    one : (t : Bool) → Pairwise ◌<◌ (cond t (k ∷ []) [])
    one true i j h l = absurd (omega arith)
    one false i j h l = absurd (omega arith)

    last : (t : Bool) (y : ℕ) → Memᴰ y (cond t (k ∷ []) []) → (x : ℕ) → x < k → x < y
    last true y n x h = omega (arith, Memᴰ.eq_of_singleton n)
    last false y n x h = absurd (Memᴰ.not-nil n)
