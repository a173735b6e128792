-- Laws of counts: the turns of the loop that counts; bounds; two sets that are so large that they meet; that no more than p numbers are sent to
-- different numbers below p, and no more than pass a test to different numbers that pass it; and that the count is one where exactly one number
-- passes. Assumes nothing.
use mathlib.Core.Path.{◌≡◌, refl, sym, ap, ◌∙◌}
use mathlib.Core.Bool.{Bool, true, false, not, ◌&&◌, cond}
use mathlib.Core.Logic.{◌⊎◌, ◌≢◌, inl, inr}
use Prim.Native.Nat.{ℕ, zero, suc, ◌+◌, ◌≤◌, ◌<◌}
use native.Mathlib.Nat.{eq-or-lt_of_le, le_of_suc-le-suc}
use native.Mathlib.Numerals.{add-one}
use native.Mathlib.Omega.{arith}
use native.Mathlib.Decide.{dec_lt}
use lib.Dec.{eqb, ltb}
use borrow.Author.Tests.{eqb-true, eqb-false, ltb-true, ltb-false, not-true, not-false}
use Rattle.base.specs.Count.{count_below}
use Rattle.base.proofs.Tests.{by_test, true_not_false, and_left, and_right, and_not_right}

-- one turn of a loop that counts
pub count_here : (f : ℕ → Bool) (k : ℕ) → f k ≡ true → count_below f k + 1 ≡ count_below f (k + 1)
unfolding count_below
count_here f k e = rw (add-one k, e) (omega arith)

pub count_past : (f : ℕ → Bool) (k : ℕ) → f k ≡ false → count_below f k ≡ count_below f (k + 1)
unfolding count_below
count_past f k e = rw (add-one k, e) (omega arith)

-- the first, and the others one lower
pub count_first : (f : ℕ → Bool) (k : ℕ) → count_below f (suc k) ≡ cond (f 0) 1 0 + count_below (λ j. f (suc j)) k
unfolding count_below
count_first f zero = refl
count_first f (suc k) = let e = count_first f k in omega arith

pub count_le : (f : ℕ → Bool) (k : ℕ) → count_below f k ≤ k
unfolding count_below
count_le f zero = omega arith
count_le f (suc k) = go (f k) (count_le f k)
  where
    go : (t : Bool) → count_below f k ≤ k → cond t 1 0 + count_below f k ≤ suc k
    go true h = omega arith
    go false h = omega arith

-- more numbers, no fewer that pass
pub count_grows : (f : ℕ → Bool) (k m : ℕ) → k ≤ m → count_below f k ≤ count_below f m
unfolding count_below
count_grows f k zero h = let e : k ≡ 0 = omega arith in rw e (omega arith)
count_grows f k (suc m) h = elim (eq-or-lt_of_le h) [ inl q ↦ rw q (omega arith) | inr l ↦ omega (arith, count_grows f k m (le_of_suc-le-suc l)) ]

-- two tests that agree below k have one count
pub count_same : (f g : ℕ → Bool) (k : ℕ) → ((j : ℕ) → j < k → f j ≡ g j) → count_below f k ≡ count_below g k
unfolding count_below
count_same f g zero h = refl
count_same f g (suc k) h = rw (count_same f g k (λ j l. h j (omega arith)), h k (omega arith))

-- one more is counted where one more passes
pub count_one_more : (f g : ℕ → Bool) (k p : ℕ) → p < k → f p ≡ false → g p ≡ true → ((q : ℕ) → q < k → q ≢ p → f q ≡ g q)
    → count_below g k ≡ count_below f k + 1
unfolding count_below
count_one_more f g zero p h n y same = absurd (omega arith)
count_one_more f g (suc k) p h n y same = elim (eq-or-lt_of_le (le_of_suc-le-suc h)) [
  | inl e ↦ let n' : f k ≡ false = rw e at n in let y' : g k ≡ true = rw e at y in
      rw (n', y') (omega (arith, count_same f g k (λ q l. same q (omega arith) (λ z. absurd (omega arith)))))
  | inr l ↦ rw (same k (omega arith) (λ z. absurd (omega arith))) (omega (arith, count_one_more f g k p l n y (λ q m. same q (omega arith))))
]

-- more pass where the test is weaker
pub count_mono : (f g : ℕ → Bool) (k : ℕ) → ((p : ℕ) → p < k → f p ≡ true → g p ≡ true) → count_below f k ≤ count_below g k
unfolding count_below
count_mono f g zero w = omega arith
count_mono f g (suc k) w = go (f k) (g k) (w k (omega arith)) (count_mono f g k (λ p l. w p (omega arith)))
  where
    go : (a b : Bool) → (a ≡ true → b ≡ true) → count_below f k ≤ count_below g k → cond a 1 0 + count_below f k ≤ cond b 1 0 + count_below g k
    go true true i h = omega arith
    go true false i h = true_not_false (i refl) refl
    go false true i h = omega arith
    go false false i h = omega arith

-- those that pass f and those that pass g, against those that pass both
pub count_both : (f g : ℕ → Bool) (k : ℕ) → count_below f k + count_below g k ≤ k + count_below (λ p. f p && g p) k
unfolding count_below
count_both f g zero = omega arith
count_both f g (suc k) = go (f k) (g k) (count_both f g k)
  where
    go : (a b : Bool) → count_below f k + count_below g k ≤ k + count_below (λ p. f p && g p) k
        → cond a 1 0 + count_below f k + (cond b 1 0 + count_below g k) ≤ suc k + (cond (a && b) 1 0 + count_below (λ p. f p && g p) k)
    go true true h = omega arith
    go true false h = omega arith
    go false true h = omega arith
    go false false h = omega arith

-- where more pass f than g, something passes f and not g
pub more_than : (f g : ℕ → Bool) (k : ℕ) → count_below g k < count_below f k → (p : ℕ) × (p < k) × (f p ≡ true) × (g p ≡ false)
unfolding count_below
more_than f g zero h = absurd (omega arith)
more_than f g (suc k) h = go (f k) (g k) refl refl h (λ l. more_than f g k l)
  where
    go : (a b : Bool) → f k ≡ a → g k ≡ b → cond b 1 0 + count_below g k < cond a 1 0 + count_below f k
        → (count_below g k < count_below f k → (p : ℕ) × (p < k) × (f p ≡ true) × (g p ≡ false))
        → (p : ℕ) × (p < suc k) × (f p ≡ true) × (g p ≡ false)
    go true false ea eb l ih = (k, omega arith, ea, eb)
    go true true ea eb l ih = let r = ih (omega arith) in (r.0, omega arith, r.2, r.3)
    go false true ea eb l ih = let r = ih (omega arith) in (r.0, omega arith, r.2, r.3)
    go false false ea eb l ih = let r = ih (omega arith) in (r.0, omega arith, r.2, r.3)

-- a count that is not 0 counts something
count_never : (k : ℕ) → count_below (λ p. false) k ≡ 0
unfolding count_below
count_never zero = refl
count_never (suc k) = omega (arith, count_never k)

pub count_some : (f : ℕ → Bool) (k : ℕ) → 1 ≤ count_below f k → (p : ℕ) × (p < k) × (f p ≡ true)
count_some f k h = let r = more_than f (λ p. false) k (omega (arith, count_never k)) in (r.0, r.1, r.2)

-- ---- as many numbers as are sent to different numbers below p are at most p

-- at most one more passes f than g, where no two numbers pass f and not g
count_but_one : (f g : ℕ → Bool) (k : ℕ) → ((i j : ℕ) → i < j → j < k → f i ≡ true → g i ≡ false → f j ≡ true → g j ≢ false)
    → count_below f k ≤ suc (count_below g k)
unfolding count_below
count_but_one f g zero n = omega arith
count_but_one f g (suc k) n = go (f k) (g k) refl refl (count_but_one f g k (λ i j h l. n i j h (omega arith)))
  where
    go : (a b : Bool) → f k ≡ a → g k ≡ b → count_below f k ≤ suc (count_below g k) → cond a 1 0 + count_below f k ≤ suc (cond b 1 0 + count_below g k)
    go true false ea eb h = let w : count_below f k ≤ count_below g k = count_mono f g k (λ i l y. by_test (g i) (λ e. e) (λ z. absurd (n i k l (omega arith) y z ea eb))) in omega arith
    go true true ea eb h = omega arith
    go false true ea eb h = omega arith
    go false false ea eb h = omega arith

pub count_injective : (f : ℕ → Bool) (g : ℕ → ℕ) (k p : ℕ) → ((j : ℕ) → j < k → f j ≡ true → g j < p)
    → ((i j : ℕ) → i < j → j < k → f i ≡ true → f j ≡ true → g i ≢ g j) → count_below f k ≤ p
count_injective f g k zero b d = elim (dec_lt 0 (count_below f k)) [
  | yes h ↦ let r = count_some f k h in absurd (omega (arith, b r.0 r.1 r.2))
  | no h ↦ omega arith
]
count_injective f g k (suc p) b d =
    let less : count_below other k ≤ p = count_injective other g k p below (λ i j h l y z. d i j h l (passes i y) (passes j z)) in
    let one : count_below f k ≤ suc (count_below other k) = count_but_one f other k (λ i j h l y u z w. d i j h l y z (last i y u ∙ sym (last j z w))) in
    omega arith
  where
    -- those that are not sent to p
    other : ℕ → Bool
    other j = f j && not (eqb (g j) p)

    passes : (j : ℕ) → other j ≡ true → f j ≡ true
    passes j y = and_left (f j) (not (eqb (g j) p)) y

    below : (j : ℕ) → j < k → other j ≡ true → g j < p
    below j h y =
        let n : g j ≢ p = eqb-false (g j) p (not-true _ (and_right (f j) (not (eqb (g j) p)) y)) in
        omega (arith, b j h (passes j y))

    last : (j : ℕ) → f j ≡ true → other j ≡ false → g j ≡ p
    last j y n = eqb-true (g j) p (not-false _ (and_not_right (f j) (not (eqb (g j) p)) n y))

-- one that passes is counted among those below a greater number
pub count_rises : (f : ℕ → Bool) (i k : ℕ) → f i ≡ true → i < k → count_below f i < count_below f k
count_rises f i k y h = omega (arith, count_here f i y, count_grows f (i + 1) k (omega arith))

-- and so those that pass have different numbers of others below them
pub count_apart : (f : ℕ → Bool) (i j : ℕ) → f i ≡ true → f j ≡ true → count_below f i ≡ count_below f j → i ≡ j
count_apart f i j y z e = by_test (ltb i j)
    (λ o. absurd (omega (arith, count_rises f i j y (ltb-true i j o))))
    (λ o. by_test (ltb j i)
    (λ n. absurd (omega (arith, count_rises f j i z (ltb-true j i n))))
    (λ n. omega (arith, ltb-false i j o, ltb-false j i n)))

-- as many pass one test, at most, as pass another, where each is sent to another number that does
pub count_sent : (f g : ℕ → Bool) (h : ℕ → ℕ) (k m : ℕ) → ((q : ℕ) → q < k → f q ≡ true → (h q < m) × (g (h q) ≡ true))
    → ((p q : ℕ) → p < q → q < k → f p ≡ true → f q ≡ true → h p ≢ h q) → count_below f k ≤ count_below g m
count_sent f g h k m into apart =
    count_injective f (λ q. count_below g (h q)) k (count_below g m)
    (λ q l y. let w = into q l y in count_rises g (h q) m w.1 w.0)
    (λ p q l b y z e. apart p q l b y z (count_apart g (h p) (h q) (into p (omega arith) y).1 (into q b z).1 e))

-- one that passes is counted
pub count_member : (f : ℕ → Bool) (k i : ℕ) → i < k → f i ≡ true → 1 ≤ count_below f k
unfolding count_below
count_member f zero i h y = absurd (omega arith)
count_member f (suc k) i h y = elim (eq-or-lt_of_le (le_of_suc-le-suc h)) [
  | inl q ↦ let z : f k ≡ true = ap f (sym q) ∙ y in rw z (omega arith)
  | inr l ↦ let z : 1 ≤ count_below f k = count_member f k i l y in omega arith
]

-- where one passes and no other does, one is counted
pub count_single : (f : ℕ → Bool) (k i : ℕ) → i < k → f i ≡ true → ((j : ℕ) → j < k → f j ≡ true → j ≡ i) → count_below f k ≡ 1
count_single f k i h y only =
    let most : count_below f k ≤ 1 = count_injective f (λ j. 0) k 1 (λ j l z. omega arith) (λ a b l m z w e. omega (arith, only a (omega arith) z, only b m w)) in
    omega (arith, count_member f k i h y)

-- where one is counted, no two pass
pub count_one : (f : ℕ → Bool) (k : ℕ) → count_below f k ≡ 1 → (i j : ℕ) → i < k → j < k → f i ≡ true → f j ≡ true → i ≡ j
unfolding count_below
count_one f zero e i j h l y z = absurd (omega arith)
count_one f (suc k) e i j h l y z = go (f k) refl e (eq-or-lt_of_le (le_of_suc-le-suc h)) (eq-or-lt_of_le (le_of_suc-le-suc l)) (λ u a c. count_one f k u i j a c y z)
  where
    go : (t : Bool) → f k ≡ t → cond t 1 0 + count_below f k ≡ 1 → (i ≡ k) ⊎ (i < k) → (j ≡ k) ⊎ (j < k) → (count_below f k ≡ 1 → i < k → j < k → i ≡ j) → i ≡ j
    go t q u (inl a) (inl c) ih = a ∙ sym c
    go true q u (inl a) (inr c) ih = absurd (omega (arith, count_member f k j c z))
    go true q u (inr a) c ih = absurd (omega (arith, count_member f k i a y))
    go false q u (inl a) (inr c) ih = true_not_false (ap f (sym a) ∙ y) q
    go false q u (inr a) (inl c) ih = true_not_false (ap f (sym c) ∙ z) q
    go false q u (inr a) (inr c) ih = ih (omega arith) a c
