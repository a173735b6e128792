-- Laws of the first number below a bound that passes a test: the turns of the loop that looks for it, and what it is. Assumes nothing.
use mathlib.Core.Path.{◌≡◌, refl, sym, ap, ◌∙◌}
use mathlib.Core.Bool.{Bool, true, false, not, cond, ◌||◌}
use mathlib.Core.Logic.{◌↔◌, inl, inr}
use Prim.Native.Nat.{ℕ, zero, suc, ◌+◌, ◌≤◌, ◌<◌}
use native.Mathlib.Nat.{eq-or-lt_of_le, le_of_suc-le-suc}
use native.Mathlib.Numerals.{add-one}
use native.Mathlib.Omega.{arith}
use lib.Dec.{ltb}
use borrow.Author.Tests.{lt-ltb, le-ltb, ltb-true, ltb-false, not-true, not-false}
use Rattle.std.specs.Prelude.{Option, Some, None, is_some}
use Rattle.std.specs.Option.{option_or}
use Rattle.base.specs.Search.{below, found_below, first_below, any_below, all_below, First}
use Rattle.base.proofs.Tests.{by_test, true_not_false, not_true_false}

-- what a number below a bound and none say
pub below_some : (k i x : ℕ) → Some i ≡ below k x → (x < k) × (i ≡ x)
below_some k i x e = go (ltb x k) refl e
  where
    go : (t : Bool) → ltb x k ≡ t → Some i ≡ cond t (Some x) None → (x < k) × (i ≡ x)
    go true q e = (ltb-true x k q, cc)
    go false q e = absurd cc

pub below_none : (k x : ℕ) → None ≡ below k x → k ≤ x
below_none k x e = go (ltb x k) refl e
  where
    go : (t : Bool) → ltb x k ≡ t → None ≡ cond t (Some x) None → k ≤ x
    go true q e = absurd cc
    go false q e = ltb-false x k q

module _ (f : ℕ → Bool) where
  pub first_le : (k : ℕ) → first_below f k ≤ k
  unfolding first_below
  first_le zero = omega arith
  first_le (suc k) = go (ltb (first_below f k) k) (f k) (first_le k)
    where
      go : (t u : Bool) → first_below f k ≤ k → cond t (first_below f k) (cond u k (suc k)) ≤ suc k
      go true u h = omega arith
      go false true h = omega arith
      go false false h = omega arith

  -- before the first turn
  pub first_none : first_below f 0 ≡ 0
  unfolding first_below
  first_none = refl

  -- one turn of the loop that looks for it: none so far, and not here
  pub first_past : (k : ℕ) → first_below f k ≡ k → f k ≡ false → first_below f (k + 1) ≡ k + 1
  unfolding first_below
  first_past k e n = rw (add-one k, e, le-ltb k k (omega arith), n)

  -- here is the first
  pub first_hit : (j k : ℕ) → j < k → first_below f j ≡ j → f j ≡ true → first_below f k ≡ j
  unfolding first_below
  first_hit j zero h e y = absurd (omega arith)
  first_hit j (suc k) h e y = elim (eq-or-lt_of_le (le_of_suc-le-suc h)) [
    | inl q ↦ let e' : first_below f k ≡ k = rw q at e in let y' : f k ≡ true = rw q at y in rw (e', le-ltb k k (omega arith), y') (sym q)
    | inr l ↦ let i = first_hit j k l e y in rw (i, lt-ltb j k l)
  ]

  -- what the first is: it passes, and none before it does
  pub first_passes : (k : ℕ) → first_below f k < k → f (first_below f k) ≡ true
  unfolding first_below
  first_passes zero h = absurd (omega arith)
  first_passes (suc k) h = go (ltb (first_below f k) k) refl (f k) refl h (first_passes k)
    where
      go : (t : Bool) → ltb (first_below f k) k ≡ t → (u : Bool) → f k ≡ u → cond t (first_below f k) (cond u k (suc k)) < suc k → (first_below f k < k → f (first_below f k) ≡ true)
          → f (cond t (first_below f k) (cond u k (suc k))) ≡ true
      go true q u p h ih = ih (ltb-true _ _ q)
      go false q true p h ih = p
      go false q false p h ih = absurd (omega arith)

  pub first_before : (k j : ℕ) → j < first_below f k → f j ≡ false
  unfolding first_below
  first_before zero j h = absurd (omega arith)
  first_before (suc k) j h = go (ltb (first_below f k) k) refl (f k) refl h (first_before k j) (first_le k)
    where
      go : (t : Bool) → ltb (first_below f k) k ≡ t → (u : Bool) → f k ≡ u → j < cond t (first_below f k) (cond u k (suc k)) → (j < first_below f k → f j ≡ false) → first_below f k ≤ k → f j ≡ false
      go true q u p h ih l = ih h
      go false q true p h ih l = ih (omega (arith, ltb-false (first_below f k) k q))
      go false q false p h ih l = elim (eq-or-lt_of_le (le_of_suc-le-suc h)) [ inl e ↦ rw e p | inr i ↦ ih (omega (arith, ltb-false (first_below f k) k q)) ]

  -- where none below k passes, there is no first, and the other way round
  pub any_false : (k : ℕ) → ((j : ℕ) → j < k → f j ≡ false) → any_below f k ≡ false
  unfolding any_below
  any_false k n = not_true_false _ (λ e. let l = ltb-true _ _ e in true_not_false (first_passes k l) (n _ l))

  pub first_nowhere : (k : ℕ) → ((j : ℕ) → j < k → f j ≡ false) → first_below f k ≡ k
  unfolding any_below
  first_nowhere k n = omega (arith, first_le k, ltb-false (first_below f k) k (any_false k n))

  -- the search answers none
  pub found_none : (k : ℕ) → first_below f k ≡ k → None ≡ found_below f k
  found_none k e = rw (e, le-ltb k k (omega arith)) refl

  pub found_nowhere : (k : ℕ) → ((j : ℕ) → j < k → f j ≡ false) → None ≡ found_below f k
  found_nowhere k h = found_none k (first_nowhere k h)

  -- the search answers the first number
  pub found_first : (k i : ℕ) → i < k → first_below f i ≡ i → f i ≡ true → Some i ≡ found_below f k
  found_first k i l e y = rw (first_hit i k l e y, lt-ltb i k l) refl

  pub found_here : (k i : ℕ) → i < k → ((j : ℕ) → j < i → f j ≡ false) → f i ≡ true → Some i ≡ found_below f k
  found_here k i l h y = found_first k i l (first_nowhere i h) y

  -- what the search's answer says
  pub some_found : (k i : ℕ) → Some i ≡ found_below f k → (any_below f k ≡ true) × (i ≡ first_below f k)
  unfolding any_below
  some_found k i e = let h = below_some k i (first_below f k) e in (lt-ltb _ k h.0, h.1)

  pub none_found : (k : ℕ) → None ≡ found_below f k → any_below f k ≡ false
  unfolding any_below
  none_found k e = le-ltb _ k (below_none k (first_below f k) e)

  pub none_first : (k : ℕ) → None ≡ found_below f k → first_below f k ≡ k
  none_first k e = omega (arith, first_le k, below_none k (first_below f k) e)

  -- one number more
  pub found_step : (k : ℕ) → found_below f (k + 1) ≡ option_or (found_below f k) (cond (f k) (Some k) None)
  unfolding first_below
  found_step k = rw (add-one k) (go (ltb (first_below f k) k) refl (f k))
    where
      go : (t : Bool) → ltb (first_below f k) k ≡ t → (u : Bool)
          → below (suc k) (cond t (first_below f k) (cond u k (suc k))) ≡ option_or (cond t (Some (first_below f k)) None) (cond u (Some k) None)
      go true q u = let h = ltb-true _ _ q in rw (lt-ltb (first_below f k) (suc k) (omega arith)) refl
      go false q true = rw (lt-ltb k (suc k) (omega arith)) refl
      go false q false = rw (le-ltb (suc k) (suc k) (omega arith)) refl

  -- whether the search answers a number
  pub any_some : (k : ℕ) (o : Option ℕ) → o ≡ found_below f k → is_some o ≡ any_below f k
  unfolding any_below
  any_some k o e = ap is_some e ∙ go (ltb (first_below f k) k)
    where
      go : (t : Bool) → is_some (cond t (Some (first_below f k)) None) ≡ t
      go true = refl
      go false = refl

  pub any_false_at : (k : ℕ) → any_below f k ≡ false → (j : ℕ) → j < k → f j ≡ false
  unfolding any_below
  any_false_at k e j h = first_before k j (omega (arith, ltb-false (first_below f k) k e))

  pub any_true : (k j : ℕ) → j < k → f j ≡ true → any_below f k ≡ true
  any_true k j h y = by_test (any_below f k) (λ e. e) (λ e. true_not_false y (any_false_at k e j h))

  -- the first, where there is one
  pub any_first : (k : ℕ) → any_below f k ≡ true → first_below f k < k
  unfolding any_below
  any_first k e = ltb-true (first_below f k) k e

  -- the other way round: what a search that has come to i says
  pub any_found : (i k : ℕ) → i ≡ first_below f k → i < k → any_below f k ≡ true
  unfolding any_below
  any_found i k e h = rw (← e) (lt-ltb i k h)

  pub any_missed : (i k : ℕ) → i ≡ first_below f k → k ≤ i → any_below f k ≡ false
  unfolding any_below
  any_missed i k e h = rw (← e) (le-ltb i k h)

  pub any_true_at : (k : ℕ) → any_below f k ≡ true → (j : ℕ) × (j < k) × (f j ≡ true)
  any_true_at k e = (first_below f k, any_first k e, first_passes k (any_first k e))

-- where the test below k is what P says, some number passes exactly if there is one of which P holds, and the first that passes is the first of those
module _ (f : ℕ → Bool) (k : ℕ) (P : ℕ → Type 0) (means : (i : ℕ) → ((i < k) × (f i ≡ true)) ↔ P i) where
  pub any_such : (any_below f k ≡ true) ↔ ((i : ℕ) × P i)
  any_such = (
    λ e. let w = any_true_at f k e in (w.0, (means w.0).0 (w.1, w.2)),
    λ w. let p = (means w.0).1 w.1 in any_true f k w.0 p.0 p.1,
  )

  pub first_such : any_below f k ≡ true → First P (first_below f k)
  first_such e =
      record {
        here = (means (first_below f k)).0 (any_first f k e, first_passes f k (any_first f k e));
        before = λ j h p. true_not_false ((means j).1 p).1 (first_before f k j h);
      }

-- one turn more
pub any_more : (f : ℕ → Bool) (k : ℕ) → any_below f (k + 1) ≡ (any_below f k || f k)
unfolding any_below first_below
any_more f k = rw (add-one k) (go (ltb (first_below f k) k) refl (f k))
  where
    go : (t : Bool) → ltb (first_below f k) k ≡ t → (u : Bool) → ltb (cond t (first_below f k) (cond u k (suc k))) (suc k) ≡ (t || u)
    go true e u = lt-ltb (first_below f k) (suc k) (omega (arith, ltb-true (first_below f k) k e))
    go false e true = lt-ltb k (suc k) (omega arith)
    go false e false = le-ltb (suc k) (suc k) (omega arith)

-- all pass where each does, and the other way round
pub all_true : (f : ℕ → Bool) (k : ℕ) → ((j : ℕ) → j < k → f j ≡ true) → all_below f k ≡ true
unfolding all_below
all_true f k y = ap not (any_false (λ i. not (f i)) k (λ j h. ap not (y j h)))

pub all_true_at : (f : ℕ → Bool) (k : ℕ) → all_below f k ≡ true → (j : ℕ) → j < k → f j ≡ true
unfolding all_below
all_true_at f k e j h = not-false _ (any_false_at (λ i. not (f i)) k (not-true _ e) j h)

-- one that fails is enough
pub all_false : (f : ℕ → Bool) (k j : ℕ) → j < k → f j ≡ false → all_below f k ≡ false
unfolding all_below
all_false f k j h n = ap not (any_true (λ i. not (f i)) k j h (ap not n))

-- two tests that agree below k have one first
pub first_same_lem : (f g : ℕ → Bool) (k : ℕ) → ((j : ℕ) → j < k → f j ≡ g j) → first_below f k ≡ first_below g k
unfolding first_below
first_same_lem f g zero h = refl
first_same_lem f g (suc k) h = rw (first_same_lem f g k (λ j l. h j (omega arith)), h k (omega arith))

pub any_same : (f g : ℕ → Bool) (k : ℕ) → ((j : ℕ) → j < k → f j ≡ g j) → any_below f k ≡ any_below g k
unfolding any_below
any_same f g k h = ap (λ (n : ℕ). ltb n k) (first_same_lem f g k h)

pub all_same : (f g : ℕ → Bool) (k : ℕ) → ((j : ℕ) → j < k → f j ≡ g j) → all_below f k ≡ all_below g k
unfolding all_below
all_same f g k h = ap not (any_same (λ i. not (f i)) (λ i. not (g i)) k (λ j l. ap not (h j l)))
