-- Lists: the values of a function at the numbers below a bound; whether some element passes a test, how many do, and which; and the numbers below a
-- bound that pass a test. Assumes nothing.
use Rattle.std.specs.Prelude.{Bool, cond, false, ◌||◌, List, [], ◌∷◌, ◌++◌, ℕ, zero, suc, ◌+◌}

module _ {A : Type 0} where
  -- f 0, f 1, .. up to f (k - 1)
  unfoldable pub list_below : (ℕ → A) → ℕ → List A
  list_below f zero = []
  list_below f (suc k) = f 0 ∷ list_below (λ i. f (suc i)) k

  -- whether some element passes the test
  unfoldable pub some_in : (A → Bool) → List A → Bool
  some_in test [] = false
  some_in test (x ∷ xs) = test x || some_in test xs

  -- how many elements pass the test
  unfoldable pub count_in : (A → Bool) → List A → ℕ
  count_in test [] = 0
  count_in test (x ∷ xs) = cond (test x) 1 0 + count_in test xs

  -- the elements that pass the test, in their order
  unfoldable pub passing_in : (A → Bool) → List A → List A
  passing_in test [] = []
  passing_in test (x ∷ xs) = cond (test x) (x ∷ passing_in test xs) (passing_in test xs)

-- the numbers below k that pass the test, in rising order
unfoldable pub passing_below : (ℕ → Bool) → ℕ → List ℕ
passing_below test zero = []
passing_below test (suc k) = passing_below test k ++ cond (test k) (k ∷ []) []
