-- Laws of a mask read as a set of places: what is in it, how many, and that none stands from a place on; the full mask,
-- what is in one of two masks and in both, one place more, and whether one has all of the other. They hold at every width. Assumes nothing.
use mathlib.Core.Path.{◌≡◌, refl, sym, ap, ◌∙◌}
use mathlib.Core.Bool.{Bool, true, false, not, cond, ◌&&◌, ◌||◌}
use Prim.Native.Nat.{ℕ, zero, suc, ◌+◌, ◌-◌, ◌*◌, ◌/◌, ◌%◌, ◌^◌, ◌≤◌, ◌<◌, min, max}
use native.Mathlib.Nat.{pow-suc, div-eq_of_lt, mod-lt, zero-div}
use native.Mathlib.Decide.{dec_lt}
use native.Mathlib.Omega.{arith}
use lib.Dec.{eqb, leb, ltb, lit<}
use lib.Pow.{pow_pos, pow_mono, shl_exact, split}
use lib.Bits.{bit_or, bit_and, or_lt}
use lib.Count.{ones}
use borrow.Author.Tests.{eq-eqb, ne_eqb, eqb-true, le-leb, leb-true, ltb-true, ltb-false, not-true}
use Rattle.base.specs.Search.{first_below, any_below}
use Rattle.base.specs.Count.{count_below}
use Rattle.base.specs.Mask.{mask_below, bit_at, in_mask}
use Rattle.base.proofs.Tests.{by_test, true_not_false, not_true_false, and_left, and_right, or_false, same_tests}
use Rattle.base.proofs.Search.{any_false, any_false_at, any_more}
use Rattle.base.proofs.Mask.{mask_below_lem, mask_bit, mask_bit_past, ones_mask, bit_lt, bit_and_lem, bit_or_lem, bit_not, bits_ext}
use Rattle.base.proofs.TopPlace.{highest_in, lower_in}

bit_test : (b : Bool) → eqb (cond b 1 0) 1 ≡ b
bit_test true = refl
bit_test false = refl

-- what is in a mask
pub mask_has : (f : ℕ → Bool) (k p : ℕ) → p < k → in_mask (mask_below f k) p ≡ f p
mask_has f k p h = rw (mask_bit f k p h) (bit_test (f p))

pub mask_has_not : (f : ℕ → Bool) (k p : ℕ) → k ≤ p → in_mask (mask_below f k) p ≡ false
mask_has_not f k p h = rw (mask_bit_past f k p h)

test_bit : (x : ℕ) → x < 2 → cond (eqb x 1) 1 0 ≡ x
test_bit zero h = refl
test_bit (suc zero) h = refl
test_bit (suc (suc x)) h = absurd (omega arith)

-- tests that agree below k make one mask
pub mask_same : (f g : ℕ → Bool) (k : ℕ) → ((p : ℕ) → p < k → f p ≡ g p) → mask_below f k ≡ mask_below g k
unfolding mask_below
mask_same f g zero h = refl
mask_same f g (suc k) h = rw (mask_same f g k (λ p l. h p (omega arith)), h k (omega arith))

-- a number whose bits from k on are 0 is the mask of what is in it below k
lower_mask : (w m k : ℕ) → m < 2 ^ w → k ≤ w → ((p : ℕ) → k ≤ p → p < w → bit_at m p ≡ 0) → mask_below (in_mask m) k ≡ m
lower_mask w m k h l z = bits_ext w (mask_below (in_mask m) k) m (omega (arith, mask_below_lem (in_mask m) k, pow_mono l)) h bit
  where
    bit : (p : ℕ) → p < w → bit_at (mask_below (in_mask m) k) p ≡ bit_at m p
    bit p q = elim (dec_lt p k) [
      | yes y ↦ mask_bit (in_mask m) k p y ∙ test_bit (bit_at m p) (bit_lt m p)
      | no n ↦ mask_bit_past (in_mask m) k p (omega arith) ∙ sym (z p (omega arith) q)
    ]

-- a number of w bits is the mask of what is in it
pub mask_members : (w m : ℕ) → m < 2 ^ w → mask_below (in_mask m) w ≡ m
mask_members w m h = lower_mask w m w h (omega arith) (λ p l q. absurd (omega arith))

pub ones_members : (w m : ℕ) → m < 2 ^ w → ones m ≡ count_below (in_mask m) w
ones_members w m h = ap ones (sym (mask_members w m h)) ∙ ones_mask (in_mask m) w

-- the code's test `m >> i == 0`: the mask is that of places below i
pub small_mask : (m i : ℕ) → m / 2 ^ i ≡ 0 → m < 2 ^ i
small_mask m i e = let s : 0 * 2 ^ i + m % 2 ^ i ≡ m = rw e at (split m i) in omega (arith, mod-lt m (pow_pos i))

-- and so no place from i on is in it
pub none_from : (w m i : ℕ) → m < 2 ^ w → i ≤ w → eqb (m / 2 ^ i) 0 ≡ not (any_below (λ p. leb i p && in_mask m p) w)
none_from w m i h l = by_test (any_below (λ p. leb i p && in_mask m p) w) some none
  where
    some : any_below (λ p. leb i p && in_mask m p) w ≡ true → eqb (m / 2 ^ i) 0 ≡ not (any_below (λ p. leb i p && in_mask m p) w)
    some e = rw e (not_true_false (eqb (m / 2 ^ i) 0) (λ z. true_not_false e (any_false (λ p. leb i p && in_mask m p) w (λ p q. out z p))))
      where
        out : eqb (m / 2 ^ i) 0 ≡ true → (p : ℕ) → (leb i p && in_mask m p) ≡ false
        out z p = not_true_false (leb i p && in_mask m p) (λ y.
            let low : m < 2 ^ i = small_mask m i (eqb-true (m / 2 ^ i) 0 z) in
            let high : i ≤ p = leb-true i p (and_left (leb i p) (in_mask m p) y) in
            let none : bit_at m p ≡ 0 = ap (λ (x : ℕ). x % 2) (div-eq_of_lt (omega (arith, pow_mono high))) in
            true_not_false (and_right (leb i p) (in_mask m p) y) (rw none))

    none : any_below (λ p. leb i p && in_mask m p) w ≡ false → eqb (m / 2 ^ i) 0 ≡ not (any_below (λ p. leb i p && in_mask m p) w)
    none e = rw e (eq-eqb (m / 2 ^ i) 0 (div-eq_of_lt below))
      where
        zero_bit : (x : ℕ) → x < 2 → eqb x 1 ≡ false → x ≡ 0
        zero_bit zero h e = refl
        zero_bit (suc zero) h e = true_not_false refl e
        zero_bit (suc (suc x)) h e = absurd (omega arith)

        out : (p : ℕ) → i ≤ p → p < w → bit_at m p ≡ 0
        out p y q = zero_bit (bit_at m p) (bit_lt m p) (rw (le-leb i p y) at (any_false_at (λ p. leb i p && in_mask m p) w e p q))

        below : m < 2 ^ i
        below = rw (lower_mask w m i h l out) at (mask_below_lem (in_mask m) i)

-- the mask of w bits that are all 1: every place below w is in it
pub full_mask : (w p : ℕ) → in_mask (2 ^ w - 1) p ≡ ltb p w
full_mask w p = by_test (ltb p w) (λ y. rw y (eq-eqb (bit_at (2 ^ w - 1) p) 1 (one (ltb-true p w y)))) (λ n. rw (n, past (ltb-false p w n)))
  where
    one : p < w → bit_at (2 ^ w - 1) p ≡ 1
    one h =
        let e : 2 ^ w - 1 ≡ (2 ^ w - 1) - 0 = omega arith in
        ap (λ (x : ℕ). bit_at x p) e ∙ bit_not w 0 p (pow_pos w) h ∙ ap (λ (x : ℕ). 1 - x % 2) (zero-div (2 ^ p))

    past : w ≤ p → bit_at (2 ^ w - 1) p ≡ 0
    past h = ap (λ (x : ℕ). x % 2) (div-eq_of_lt (omega (arith, pow_pos w, pow_mono h)))

-- what is in one of two masks
pub mask_or : (a b p : ℕ) → in_mask (bit_or a b) p ≡ (in_mask a p || in_mask b p)
mask_or a b p = ap (λ (x : ℕ). eqb x 1) (bit_or_lem a b p) ∙ either (bit_at a p) (bit_at b p) (bit_lt a p) (bit_lt b p)
  where
    either : (x y : ℕ) → x < 2 → y < 2 → eqb (max x y) 1 ≡ (eqb x 1 || eqb y 1)
    either zero zero h k = refl
    either zero (suc zero) h k = refl
    either zero (suc (suc y)) h k = absurd (omega arith)
    either (suc zero) zero h k = refl
    either (suc zero) (suc zero) h k = refl
    either (suc zero) (suc (suc y)) h k = absurd (omega arith)
    either (suc (suc x)) y h k = absurd (omega arith)

-- what is in both of two masks
pub mask_and : (a b p : ℕ) → in_mask (bit_and a b) p ≡ (in_mask a p && in_mask b p)
mask_and a b p = ap (λ (x : ℕ). eqb x 1) (bit_and_lem a b p) ∙ both (bit_at a p) (bit_at b p) (bit_lt a p) (bit_lt b p)
  where
    both : (x y : ℕ) → x < 2 → y < 2 → eqb (min x y) 1 ≡ (eqb x 1 && eqb y 1)
    both zero zero h k = refl
    both zero (suc zero) h k = refl
    both zero (suc (suc y)) h k = absurd (omega arith)
    both (suc zero) zero h k = refl
    both (suc zero) (suc zero) h k = refl
    both (suc zero) (suc (suc y)) h k = absurd (omega arith)
    both (suc (suc x)) y h k = absurd (omega arith)

-- a mask and a number of its width, joined
pub mask_join : (w : ℕ) (f : ℕ → Bool) (m : ℕ) → m < 2 ^ w → bit_or (mask_below f w) m ≡ mask_below (λ p. f p || in_mask m p) w
mask_join w f m h =
    sym (mask_members w (bit_or (mask_below f w) m) (or_lt w (mask_below f w) m (mask_below_lem f w) h))
    ∙ mask_same (in_mask (bit_or (mask_below f w) m)) (λ p. f p || in_mask m p) w
    (λ p l. mask_or (mask_below f w) m p ∙ ap (λ (t : Bool). t || in_mask m p) (mask_has f w p l))

-- what is in the mask of one place
pub one_in_lem : (p q : ℕ) → in_mask (2 ^ p) q ≡ eqb p q
one_in_lem p q = elim (dec_lt q p) [
  | yes l ↦ lower_in (2 ^ p) p (omega arith) (omega (arith, pow-suc 2 p, pow_pos p)) q l
      ∙ ap (λ (x : ℕ). in_mask x q) (sub_self (2 ^ p)) ∙ ap (λ (x : ℕ). eqb (x % 2) 1) (zero-div (2 ^ q)) ∙ sym (ne_eqb p q (λ e. absurd (omega arith)))
  | no n ↦ elim (dec_lt p q) [
    | yes l ↦ ap (λ (x : ℕ). eqb (x % 2) 1) (div-eq_of_lt (pow_lt p q l)) ∙ sym (ne_eqb p q (λ e. absurd (omega arith)))
    | no o ↦ let e : q ≡ p = omega arith in
        ap (in_mask (2 ^ p)) e ∙ highest_in (2 ^ p) p (omega arith) (omega (arith, pow-suc 2 p, pow_pos p)) ∙ sym (eq-eqb p q (sym e))
  ]
]
  where
    sub_self : (x : ℕ) → x - x ≡ 0
    sub_self x = omega arith

    pow_lt : (p q : ℕ) → p < q → 2 ^ p < 2 ^ q
    pow_lt p q l = omega (arith, pow-suc 2 p, pow_pos p, pow_mono {i = suc p} {j = q} l)

-- the code's `m | 1 << p` at a width of w bits, for a place p anywhere in the mask
pub mask_add : (w : ℕ) (f : ℕ → Bool) (k p : ℕ) → k ≤ w → p < k → bit_or (mask_below f k) (1 * 2 ^ p % 2 ^ w) ≡ mask_below (λ q. f q || eqb p q) k
mask_add w f k p l h =
    let e : 1 * 2 ^ p % 2 ^ w ≡ 2 ^ p = shl_exact 1 p w (lit< tt) (omega arith) ∙ one_mul (2 ^ p) in
    ap (λ (x : ℕ). bit_or (mask_below f k) x) e
    ∙ mask_join k f (2 ^ p) (omega (arith, pow-suc 2 p, pow_pos p, pow_mono {i = suc p} {j = k} h))
    ∙ mask_same (λ q. f q || in_mask (2 ^ p) q) (λ q. f q || eqb p q) k (λ q l. ap (λ (t : Bool). f q || t) (one_in_lem p q))
  where
    one_mul : (x : ℕ) → 1 * x ≡ x
    one_mul x = omega arith

-- ---- the mask of the places below n that pass with some number below i, where a test takes both
module _ (f : ℕ → ℕ → Bool) where
  pub some_none : (n : ℕ) → 0 ≡ mask_below (λ p. any_below (f p) 0) n
  unfolding mask_below any_below first_below
  some_none zero = refl
  some_none (suc n) = omega (arith, some_none n)

  -- number i more, with which place p passes and no other
  pub some_put : (w n i p : ℕ) → n ≤ w → p < n → ((q : ℕ) → q < n → eqb p q ≡ f q i)
      → bit_or (mask_below (λ q. any_below (f q) i) n) (1 * 2 ^ p % 2 ^ w) ≡ mask_below (λ q. any_below (f q) (i + 1)) n
  some_put w n i p l h e =
      mask_add w (λ q. any_below (f q) i) n p l h
      ∙ mask_same _ _ n (λ q m. ap (λ (t : Bool). any_below (f q) i || t) (e q m) ∙ sym (any_more (f q) i))

  -- with which none passes
  pub some_skip : (n i : ℕ) → ((q : ℕ) → q < n → f q i ≡ false) → mask_below (λ q. any_below (f q) i) n ≡ mask_below (λ q. any_below (f q) (i + 1)) n
  some_skip n i e = mask_same _ _ n
      (λ q m. sym (any_more (f q) i ∙ ap (λ (t : Bool). any_below (f q) i || t) (e q m) ∙ or_false (any_below (f q) i)))

-- the code's test `marked | m == marked`: no place of m fails the test that the mask was made by
pub none_outside : (w : ℕ) (f : ℕ → Bool) (m : ℕ) → m < 2 ^ w → eqb (bit_or (mask_below f w) m) (mask_below f w) ≡ not (any_below (λ p. in_mask m p && not (f p)) w)
none_outside w f m h = ap (λ (x : ℕ). eqb x (mask_below f w)) (mask_join w f m h) ∙ same_tests (eqb (mask_below joined w) (mask_below f w)) (not (any_below outside w)) none equal
  where
    joined : ℕ → Bool
    joined p = f p || in_mask m p

    outside : ℕ → Bool
    outside p = in_mask m p && not (f p)

    no_more : (a b : Bool) → (a || b) ≡ a → (b && not a) ≡ false
    no_more true true e = refl
    no_more true false e = refl
    no_more false b e = ap (λ (x : Bool). x && true) e

    no_other : (a b : Bool) → (b && not a) ≡ false → (a || b) ≡ a
    no_other true b e = refl
    no_other false true e = e
    no_other false false e = refl

    none : eqb (mask_below joined w) (mask_below f w) ≡ true → not (any_below outside w) ≡ true
    none e = ap not (any_false outside w (λ p l. no_more (f p) (in_mask m p)
        (sym (mask_has joined w p l) ∙ ap (λ (x : ℕ). in_mask x p) (eqb-true (mask_below joined w) (mask_below f w) e) ∙ mask_has f w p l)))

    equal : not (any_below outside w) ≡ true → eqb (mask_below joined w) (mask_below f w) ≡ true
    equal e = eq-eqb (mask_below joined w) (mask_below f w) (mask_same joined f w (λ p l. no_other (f p) (in_mask m p) (any_false_at outside w (not-true _ e) p l)))
