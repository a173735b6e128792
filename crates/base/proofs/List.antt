-- Laws of the values at the numbers below a bound, of a list's map, of a test over a list, and of what is read after a store. Assumes nothing.
use mathlib.Core.Path.{◌≡◌, refl, ap, ap₂, ◌∙◌}
use mathlib.Core.Bool.{Bool, true, false, ◌||◌}
use mathlib.Core.Logic.{◌⊎◌, ◌≢◌, inl, inr}
use mathlib.Core.List.Memᴰ
use mathlib.Core.List.{List, [], ◌∷◌, ◌++◌, map, Memᴰ}
use Prim.Native.Nat.{ℕ, zero, suc, ◌+◌, ◌<◌, suc-le-suc}
use native.Mathlib.Nat.{le_of_suc-le-suc}
use native.Mathlib.Numerals.{add-one}
use native.Mathlib.Omega.{arith}
use lib.ListN.{length, get_or, set}
use lib.Seq.{get_or-set_other}
use Rattle.base.specs.List.{list_below, some_in}
use Rattle.base.proofs.Tests.{by_test, true_not_false}

module _ {A : Type 0} where
  pub length_list : (f : ℕ → A) (k : ℕ) → length (list_below f k) ≡ k
  unfolding list_below
  length_list f zero = refl
  length_list f (suc k) = ap suc (length_list (λ i. f (suc i)) k)

  pub list_at : (f : ℕ → A) (k i : ℕ) (d : A) → i < k → get_or (list_below f k) i d ≡ f i
  unfolding list_below
  list_at f zero i d h = absurd (omega arith)
  list_at f (suc k) zero d h = refl
  list_at f (suc k) (suc i) d h = list_at (λ i. f (suc i)) k i d (le_of_suc-le-suc h)

  -- one turn of the loop that makes the list
  pub list_more : (f : ℕ → A) (k : ℕ) → list_below f (k + 1) ≡ list_below f k ++ (f k ∷ [])
  unfolding list_below
  list_more f k = ap (list_below f) (add-one k) ∙ go f k
    where
      go : (f : ℕ → A) (k : ℕ) → list_below f (suc k) ≡ list_below f k ++ (f k ∷ [])
      go f zero = refl
      go f (suc k) = ap (λ (l : List A). f 0 ∷ l) (go (λ i. f (suc i)) k)

  -- functions that agree below k have one list
  pub list_same : (f g : ℕ → A) (k : ℕ) → ((i : ℕ) → i < k → f i ≡ g i) → list_below f k ≡ list_below g k
  unfolding list_below
  list_same f g zero h = refl
  list_same f g (suc k) h = rw (h 0 (omega arith), list_same (λ i. f (suc i)) (λ i. g (suc i)) k (λ i l. h (suc i) (suc-le-suc l)))

  -- a test that some element passes, and an element that passes it
  pub some_found : (test : A → Bool) (l : List A) → some_in test l ≡ true → (x : A) × Memᴰ x l × (test x ≡ true)
  unfolding some_in
  some_found test [] e = true_not_false e refl
  some_found test (y ∷ l) e = go (test y) refl e (λ k. some_found test l k)
    where
      go : (t : Bool) → test y ≡ t → (t || some_in test l) ≡ true → (some_in test l ≡ true → (x : A) × Memᴰ x l × (test x ≡ true))
          → (x : A) × Memᴰ x (y ∷ l) × (test x ≡ true)
      go true q k ih = (y, Memᴰ.head refl, q)
      go false q k ih = let r = ih k in (r.0, Memᴰ.tail r.1, r.2)

  pub some_at_lem : (test : A → Bool) (l : List A) (x : A) → Memᴰ x l → test x ≡ true → some_in test l ≡ true
  unfolding some_in
  some_at_lem test [] x m e = absurd (Memᴰ.not-nil m)
  some_at_lem test (y ∷ l) x m e = go (test y) refl (Memᴰ.cases_cons m) (λ k. some_at_lem test l x k e)
    where
      go : (t : Bool) → test y ≡ t → (x ≡ y) ⊎ Memᴰ x l → (Memᴰ x l → some_in test l ≡ true) → (t || some_in test l) ≡ true
      go true q c ih = refl
      go false q (inl k) ih = true_not_false (rw k at e) q
      go false q (inr k) ih = ih k

  pub some_none : (test : A → Bool) (l : List A) → ((x : A) → Memᴰ x l → test x ≡ false) → some_in test l ≡ false
  some_none test l n = by_test (some_in test l) (λ e. let w = some_found test l e in true_not_false w.2 (n w.0 w.1)) (λ e. e)

-- a function over a list, at an index of it, whatever stands for an entry past the end
pub map_at : {A B : Type 0} (f : A → B) (l : List A) (i : ℕ) (a : A) (b : B) → i < length l → get_or (map f l) i b ≡ f (get_or l i a)
map_at f [] i a b h = absurd (omega arith)
map_at f (x ∷ l) zero a b h = refl
map_at f (x ∷ l) (suc i) a b h = map_at f l i a b (le_of_suc-le-suc h)

-- ---- lists of numbers, 0 past the end

-- what is read after a store: the old element, or the stored one at its own place
pub set_cases : (l : List ℕ) (p q v : ℕ) → (get_or (set l p v) q 0 ≡ get_or l q 0) ⊎ ((q ≡ p) × (get_or (set l p v) q 0 ≡ v))
set_cases [] p q v = inl refl
set_cases (x ∷ l) zero zero v = inr (refl, refl)
set_cases (x ∷ l) zero (suc q) v = inl refl
set_cases (x ∷ l) (suc p) zero v = inl refl
set_cases (x ∷ l) (suc p) (suc q) v = elim (set_cases l p q v) [ inl e ↦ inl e | inr e ↦ inr (ap suc e.0, e.1) ]

-- a store over a 0 leaves every element that is not 0
pub set_keeps : (l : List ℕ) (p v : ℕ) → get_or l p 0 ≡ 0 → (q : ℕ) → get_or l q 0 ≢ 0 → get_or (set l p v) q 0 ≡ get_or l q 0
set_keeps l p v z q n = get_or-set_other l p q v 0 (λ e. n (rw e z))

-- a list of values with one value changed
pub set_list : (f g : ℕ → ℕ) (k p v : ℕ) → p < k → v ≡ g p → ((q : ℕ) → q ≢ p → f q ≡ g q) → set (list_below f k) p v ≡ list_below g k
unfolding list_below
set_list f g zero p v h e o = absurd (omega arith)
set_list f g (suc k) zero v h e o =
    ap₂ ◌∷◌ e (list_same (λ i. f (suc i)) (λ i. g (suc i)) k (λ i l. o (suc i) (λ z. absurd (omega arith))))
set_list f g (suc k) (suc p) v h e o =
    ap₂ ◌∷◌ (o 0 (λ z. absurd (omega arith))) (set_list (λ i. f (suc i)) (λ i. g (suc i)) k p v (le_of_suc-le-suc h) e (λ q n. o (suc q) (λ z. n (omega arith))))
