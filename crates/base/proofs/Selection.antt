-- Laws of the list of the elements that pass a test: for two lists joined, for an element that stands anywhere, and how long it is. Assumes nothing.
use mathlib.Core.Path.{◌≡◌, refl, ap}
use mathlib.Core.Bool.{Bool, cond, ◌&&◌}
use mathlib.Core.List.{List, [], ◌∷◌, ◌++◌}
use Prim.Native.Nat.{◌+◌, ◌≤◌}
use native.Mathlib.Omega.{arith}
use lib.ListN.{length}
use Rattle.base.specs.List.{count_in, passing_in}
use Rattle.base.proofs.Tests.{by_test}

module _ {A : Type 0} (test : A → Bool) where
  pub count_in_append : (us vs : List A) → count_in test (us ++ vs) ≡ count_in test us + count_in test vs
  unfolding count_in
  count_in_append [] vs = omega arith
  count_in_append (u ∷ us) vs = omega (arith, count_in_append us vs)

  -- one that stands anywhere
  pub count_in_mid : (us : List A) (w : A) (vs : List A) → count_in test (us ++ (w ∷ vs)) ≡ cond (test w) 1 0 + count_in test (us ++ vs)
  unfolding count_in
  count_in_mid [] w vs = refl
  count_in_mid (u ∷ us) w vs = omega (arith, count_in_mid us w vs)

  pub those_append : (us vs : List A) → passing_in test (us ++ vs) ≡ passing_in test us ++ passing_in test vs
  unfolding passing_in
  those_append [] vs = refl
  those_append (u ∷ us) vs = by_test (test u) (λ y. rw y (ap (λ (l : List A). u ∷ l) (those_append us vs))) (λ n. rw n (those_append us vs))

  pub length_those : (xs : List A) → length (passing_in test xs) ≡ count_in test xs
  unfolding passing_in count_in
  length_those [] = refl
  length_those (x ∷ xs) = by_test (test x) (λ y. rw y (omega (arith, length_those xs))) (λ n. rw n (omega (arith, length_those xs)))

  pub count_in_le : (xs : List A) → count_in test xs ≤ length xs
  unfolding count_in
  count_in_le [] = omega arith
  count_in_le (x ∷ xs) = by_test (test x) (λ y. rw y (omega (arith, count_in_le xs))) (λ n. rw n (omega (arith, count_in_le xs)))

-- of those that pass one test, how many pass another
pub count_in_those : {A : Type 0} (f g : A → Bool) (xs : List A) → count_in (λ x. f x && g x) xs ≡ count_in g (passing_in f xs)
unfolding count_in passing_in
count_in_those f g [] = refl
count_in_those f g (x ∷ xs) = by_test (f x) (λ y. rw y (omega (arith, count_in_those f g xs))) (λ n. rw n (omega (arith, count_in_those f g xs)))
