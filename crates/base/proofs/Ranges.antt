-- What `any`, `all` and `find` answer over the numbers below a bound, where the closure answers a test. Assumes nothing.
use mathlib.Core.Path.{◌≡◌, refl, sym, ◌∙◌}
use mathlib.Core.Bool.{Bool, true, false}
use Prim.Native.Nat.{ℕ, ◌≤◌, ◌<◌}
use native.Mathlib.Omega.{arith}
use lib.ListN.{length, get_or}
use denote.Param.Members.{Mut}
use Rattle.std.specs.Prelude.{HoldsAt}
use Rattle.std.specs.Fn.{Called, CalledAt}
use Rattle.std.specs.Bool.{MatchBool}
use Rattle.std.specs.Option.{MatchOption}
use Rattle.std.specs.Prelude.{List, Option}
use Rattle.std.specs.declared.option.Option.TheVariants.{None, Some}
use denote.Ref.{Bor}
use Rattle.std.specs.Iterator.{ChecksAny, ChecksAll, FindsItem}
use Rattle.std.specs.List.{range_with_len, AllWithin}
use Rattle.std.specs.Slice.Iter.{iter_rest}
use Rattle.std.specs.declared.slice.Iter.{Iter}
use Rattle.std.proofs.iter.Yields.{fronts, nat_range_steps}
use Rattle.std.proofs.lemmas.Iterator.{YieldsList-from_range, YieldsList-from_slice, cases_from_any, cases_from_all, first_from_Range}
use Rattle.std.proofs.lemmas.List.FromFn.{length-range_with_len, get_or-range_with_len}
use Rattle.std.specs.declared.ops.Range.{Range}
use Rattle.base.specs.Search.{any_below, all_below, found_below}
use Rattle.base.proofs.Search.{any_true, any_false, all_true, all_false, found_nowhere, found_here}

-- the number at an index of a range from 0 on is the index
at_range : (k i d : ℕ) → i < k → get_or (range_with_len 0 k) i d ≡ i
at_range k i d h = get_or-range_with_len 0 k i d h ∙ omega arith

-- `any` is whether some number below k passes, and `all` is whether all do, where each call of the closure answers the test and leaves the closure as it was
module _ {F : Type 0} {g : Mut F (ℕ × Unit {0}) Bool} (test : ℕ → Bool) (k : ℕ) where
  pub any_over : {u : Range ℕ} {f : F} {r : Bool} → ChecksAny nat_range_steps g (record { start = 0; end = k }) f r u
      → ((x : ℕ) (b : Bool) (f' : F) → Called g f (x, tt) b f' → (f' ≡ f) × (b ≡ test x))
      → r ≡ any_below test k
  any_over {u} {f} {r} ran answers =
      go r
      (cases_from_any u f r (λ x. test x ≡ true) (λ x. test x ≡ false) ran (YieldsList-from_range 0 k k refl (omega arith))
      (λ x q h. sym (answers x true q h).1)
      (λ x q h. let a = answers x false q h in (a.0, sym a.1)))
    where
      go : (b : Bool) → MatchBool b ((i : ℕ) × (i < length (range_with_len 0 k)) × HoldsAt (λ x. test x ≡ true) (range_with_len 0 k) i) (AllWithin (λ x. test x ≡ false) (range_with_len 0 k) 0 (length (range_with_len 0 k))) → b ≡ any_below test k
      go true m =
          let l : m.0 < k = rw (← length-range_with_len 0 k) m.1 in
          sym (any_true test k m.0 l (rw (at_range k m.0 0 l) at (m.2 0)))
      go false m =
          sym (any_false test k (λ j h. let l : j < length (range_with_len 0 k) = rw (length-range_with_len 0 k) h in rw (at_range k j 0 h) at (m j 0 (omega arith) l)))

  pub all_over : {u : Range ℕ} {f : F} {r : Bool} → ChecksAll nat_range_steps g (record { start = 0; end = k }) f r u
      → ((x : ℕ) (b : Bool) (f' : F) → Called g f (x, tt) b f' → (f' ≡ f) × (b ≡ test x))
      → r ≡ all_below test k
  all_over {u} {f} {r} ran answers =
      go r
      (cases_from_all u f r (λ x. test x ≡ true) (λ x. test x ≡ false) ran (YieldsList-from_range 0 k k refl (omega arith))
      (λ x q h. let a = answers x true q h in (a.0, sym a.1))
      (λ x q h. sym (answers x false q h).1))
    where
      go : (b : Bool) → MatchBool b (AllWithin (λ x. test x ≡ true) (range_with_len 0 k) 0 (length (range_with_len 0 k))) ((i : ℕ) × (i < length (range_with_len 0 k)) × HoldsAt (λ x. test x ≡ false) (range_with_len 0 k) i) → b ≡ all_below test k
      go false m =
          let l : m.0 < k = rw (← length-range_with_len 0 k) m.1 in
          sym (all_false test k m.0 l (rw (at_range k m.0 0 l) at (m.2 0)))
      go true m =
          sym (all_true test k (λ j h. let l : j < length (range_with_len 0 k) = rw (length-range_with_len 0 k) h in rw (at_range k j 0 h) at (m j 0 (omega arith) l)))

-- `all` over a slice is whether every item passes
module _ {F : Type 0} {g : Mut F (Bor ℕ × Unit {0}) Bool} (test : ℕ → Bool) (xs : List ℕ) where
  pub all_items : {s u : Iter ℕ} {f : F} {r : Bool} → iter_rest s ≡ xs → ChecksAll fronts g s f r u
      → ((x : Bor ℕ) (b : Bool) (f' : F) → Called g f (x, tt) b f' → (f' ≡ f) × (b ≡ test x.now))
      → r ≡ all_below (λ i. test (get_or xs i 0)) (length xs)
  all_items {s} {u} {f} {r} e ran answers =
      go r
      (cases_from_all u f r (λ x. test x ≡ true) (λ x. test x ≡ false) ran (YieldsList-from_slice xs e)
      (λ x q h. let a = answers x true q h in (a.0, sym a.1))
      (λ x q h. sym (answers x false q h).1))
    where
      go : (b : Bool) → MatchBool b (AllWithin (λ x. test x ≡ true) xs 0 (length xs)) ((i : ℕ) × (i < length xs) × HoldsAt (λ x. test x ≡ false) xs i) → b ≡ all_below (λ i. test (get_or xs i 0)) (length xs)
      go false m = sym (all_false _ (length xs) m.0 m.1 (m.2 0))
      go true m = sym (all_true _ (length xs) (λ j h. m j 0 (omega arith) h))

-- `find` is the first number below k that passes
module _ {F : Type 0} {g : Mut F (Bor ℕ × Unit {0}) Bool} (test : ℕ → Bool) (k : ℕ) where
  pub find_over : (u : Range ℕ) {f : F} {r : Option ℕ} → FindsItem nat_range_steps g (record { start = 0; end = k }) f r u
      → ((x : ℕ) (b : Bool) (f' : F) → CalledAt g f x b f' → (f' ≡ f) × (b ≡ test x))
      → r ≡ found_below test k
  find_over u {f} {r} ran answers =
      go r
      (first_from_Range (record { start = 0; end = k }) u f r (λ x. test x ≡ true) (λ x. test x ≡ false) ran
      (λ x q h. sym (answers x true q h).1)
      (λ x q h. let a = answers x false q h in (a.0, sym a.1)))
    where
      go : (o : Option ℕ) → MatchOption o ((j : ℕ) → 0 ≤ j → j < k → test j ≡ false) (λ i. (0 ≤ i) × (i < k) × (test i ≡ true) × ((j : ℕ) → 0 ≤ j → j < i → test j ≡ false)) → o ≡ found_below test k
      go None m = found_nowhere test k (λ j h. m j (omega arith) h)
      go (Some i) m = found_here test k i m.1 (λ j h. m.3 j (omega arith) h) m.2
