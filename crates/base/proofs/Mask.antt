-- Laws of masks: what the code's `m | 1 << p` makes, how many ones a mask has, and what its bits are. They hold at every width. Assumes nothing.
use mathlib.Core.Path.{◌≡◌, refl, sym, ap, ap₂, ◌∙◌, subst}
use mathlib.Core.Bool.{Bool, true, false, cond}
use mathlib.Core.Logic.{⊎_elim}
use Prim.Native.Nat.{ℕ, zero, suc, ◌+◌, ◌-◌, ◌*◌, ◌/◌, ◌%◌, ◌^◌, ◌≤◌, ◌<◌, min, max, suc-le-suc}
use native.Mathlib.Nat.{pow-suc, mul_assoc, mul-add-div_right, mul-add-mod_self_right, div-eq_of_lt, eq-or-lt_of_le, le_of_suc-le-suc, div-one, mod-lt, mod-eq_of_lt, div-add-mod'}
use native.Mathlib.Omega.{arith}
use native.Mathlib.Numerals.{add-one}
use lib.Dec.{lit<}
use lib.Pow.{pow_pos, pow-add, pow_mono, shl_exact, shr-shr, shr_lt, high}
use lib.Arith.{digits_div}
use lib.Bits.{bit_or, bit_and, or_shifted_r, and_shr, or_shr, and_step, or_step}
use lib.Count.{ones, ones_in, ones_cat}
use Rattle.base.specs.Count.{count_below}
use Rattle.base.specs.Mask.{mask_below, bit_at}

-- ---- a mask of k places is below 2 ^ k

below_bit : (b : Bool) (k m : ℕ) → m < 2 ^ k → cond b 1 0 * 2 ^ k + m < 2 ^ suc k
below_bit true k m h = omega (arith, pow-suc 2 k)
below_bit false k m h = omega (arith, pow-suc 2 k)

pub mask_below_lem : (f : ℕ → Bool) (k : ℕ) → mask_below f k < 2 ^ k
unfolding mask_below
mask_below_lem f zero = lit< tt
mask_below_lem f (suc k) = below_bit (f k) k (mask_below f k) (mask_below_lem f k)

-- ---- one turn of the loop that makes it, at a width of w bits: the place k is put in where f holds of it, and nothing happens where not

pub mask_put : (w : ℕ) (f : ℕ → Bool) (k : ℕ) → k < w → f k ≡ true → bit_or (mask_below f k) (1 * 2 ^ k % 2 ^ w) ≡ mask_below f (k + 1)
unfolding mask_below
mask_put w f k h e =
    ap (λ (x : ℕ). bit_or (mask_below f k) x) (shl_exact 1 k w (lit< tt) (omega arith))
    ∙ or_shifted_r 1 k (mask_below f k) (mask_below_lem f k)
    ∙ ap (λ (b : Bool). cond b 1 0 * 2 ^ k + mask_below f k) (sym e)
    ∙ ap (mask_below f) (sym (add-one k))

add_z : (x m : ℕ) → m ≡ 0 * x + m
add_z x m = omega arith

pub mask_skip : (f : ℕ → Bool) (k : ℕ) → f k ≡ false → mask_below f k ≡ mask_below f (k + 1)
unfolding mask_below
mask_skip f k e = add_z (2 ^ k) (mask_below f k) ∙ ap (λ (b : Bool). cond b 1 0 * 2 ^ k + mask_below f k) (sym e) ∙ ap (mask_below f) (sym (add-one k))

-- ---- how many ones it has

ones_digit : (b : Bool) → ones (cond b 1 0) ≡ cond b 1 0
unfolding ones ones_in
ones_digit true = refl
ones_digit false = refl

pub ones_mask : (f : ℕ → Bool) (k : ℕ) → ones (mask_below f k) ≡ count_below f k
unfolding mask_below count_below ones ones_in
ones_mask f zero = refl
ones_mask f (suc k) = ones_cat k (cond (f k) 1 0) (mask_below f k) (mask_below_lem f k) ∙ ap₂ (λ (x y : ℕ). x + y) (ones_digit (f k)) (ones_mask f k)

-- ---- its bits

-- what stands above a bit does not change it
pub bit_above : (d r i p : ℕ) → bit_at (d * 2 ^ (suc i + p) + r) p ≡ bit_at r p
bit_above d r i p =
    ap (λ (x : ℕ). (d * x + r) / 2 ^ p % 2) (pow-add 2 (suc i) p)
    ∙ ap (λ (x : ℕ). (x + r) / 2 ^ p % 2) (sym (mul_assoc d (2 ^ suc i) (2 ^ p)))
    ∙ ap (λ (x : ℕ). x % 2) (mul-add-div_right (pow_pos p) (d * 2 ^ suc i) r)
    ∙ ap (λ (x : ℕ). (d * x + r / 2 ^ p) % 2) (pow-suc 2 i)
    ∙ ap (λ (x : ℕ). (x + r / 2 ^ p) % 2) (sym (mul_assoc d (2 ^ i) 2))
    ∙ mul-add-mod_self_right (d * 2 ^ i) 2 (r / 2 ^ p)

digit_mod : (b : Bool) → cond b 1 0 % 2 ≡ cond b 1 0
digit_mod true = refl
digit_mod false = refl

pub mask_bit : (f : ℕ → Bool) (k p : ℕ) → p < k → bit_at (mask_below f k) p ≡ cond (f p) 1 0
unfolding mask_below
mask_bit f zero p h = absurd (omega arith)
mask_bit f (suc k) p h = ⊎_elim here (λ l. lower l (mask_bit f k p l)) (eq-or-lt_of_le (le_of_suc-le-suc h))
  where
    lower : p < k → bit_at (mask_below f k) p ≡ cond (f p) 1 0 → bit_at (cond (f k) 1 0 * 2 ^ k + mask_below f k) p ≡ cond (f p) 1 0
    lower l ih =
        let e : suc (k - suc p) + p ≡ k = omega arith in
        ap (λ (x : ℕ). bit_at (cond (f k) 1 0 * 2 ^ x + mask_below f k) p) (sym e)
        ∙ bit_above (cond (f k) 1 0) (mask_below f k) (k - suc p) p
        ∙ ih

    here : p ≡ k → bit_at (cond (f k) 1 0 * 2 ^ k + mask_below f k) p ≡ cond (f p) 1 0
    here e =
        ap (λ (x : ℕ). bit_at (cond (f k) 1 0 * 2 ^ k + mask_below f k) x) e
        ∙ ap (λ (x : ℕ). x % 2) (high (cond (f k) 1 0) k (mask_below_lem f k))
        ∙ digit_mod (f k)
        ∙ ap (λ (x : ℕ). cond (f x) 1 0) (sym e)

pub mask_bit_past : (f : ℕ → Bool) (k p : ℕ) → k ≤ p → bit_at (mask_below f k) p ≡ 0
mask_bit_past f k p h =
    let l : mask_below f k < 2 ^ p = omega (arith, mask_below_lem f k, pow_mono h) in ap (λ (x : ℕ). x % 2) (div-eq_of_lt l)

-- ---- bits of what `&`, `|` and `!` make, at every width

pub bit_zero : (m : ℕ) → bit_at m 0 ≡ m % 2
bit_zero m = ap (λ (x : ℕ). x % 2) (div-one m)

pub bit_suc : (m p : ℕ) → bit_at m (suc p) ≡ bit_at (m / 2) p
bit_suc m p =
    let e : suc p ≡ 1 + p = omega arith in
    ap (λ (x : ℕ). m / 2 ^ x % 2) e ∙ ap (λ (x : ℕ). x % 2) (sym (shr-shr m 1 p))

pub bit_lt : (m p : ℕ) → bit_at m p < 2
bit_lt m p = mod-lt (m / 2 ^ p) (lit< tt)

-- the lowest digit of what stands above it and itself
low_digit : (x c : ℕ) → c < 2 → (x * 2 + c) % 2 ≡ c
low_digit x c h = mul-add-mod_self_right x 2 c ∙ mod-eq_of_lt h

min_lt : (x y : ℕ) → x < 2 → min x y < 2
min_lt x y h = omega arith

max_lt : (x y : ℕ) → x < 2 → y < 2 → max x y < 2
max_lt x y h k = omega arith

pub bit_and_lem : (a b p : ℕ) → bit_at (bit_and a b) p ≡ min (bit_at a p) (bit_at b p)
bit_and_lem a b p =
    ap (λ (x : ℕ). x % 2) (and_shr a b p) ∙ ap (λ (x : ℕ). x % 2) (and_step (a / 2 ^ p) (b / 2 ^ p))
    ∙ low_digit (bit_and (a / 2 ^ p / 2) (b / 2 ^ p / 2)) (min (bit_at a p) (bit_at b p)) (min_lt (bit_at a p) (bit_at b p) (bit_lt a p))

pub bit_or_lem : (a b p : ℕ) → bit_at (bit_or a b) p ≡ max (bit_at a p) (bit_at b p)
bit_or_lem a b p =
    ap (λ (x : ℕ). x % 2) (or_shr a b p) ∙ ap (λ (x : ℕ). x % 2) (or_step (a / 2 ^ p) (b / 2 ^ p))
    ∙ low_digit (bit_or (a / 2 ^ p / 2) (b / 2 ^ p / 2)) (max (bit_at a p) (bit_at b p)) (max_lt (bit_at a p) (bit_at b p) (bit_lt a p) (bit_lt b p))

-- `!a` at w bits is 2 ^ w - 1 - a
not_step : (w a : ℕ) → a < 2 ^ suc w → (2 ^ suc w - 1) - a ≡ ((2 ^ w - 1) - a / 2) * 2 + (1 - a % 2)
not_step w a h = omega (arith, pow-suc 2 w, div-add-mod' a 2, mod-lt a {m = 2} (lit< tt), pow_pos w)

half_below : (w a : ℕ) → a < 2 ^ suc w → a / 2 < 2 ^ w
half_below w a h = shr_lt w 1 (subst (λ (x : ℕ). a < 2 ^ x) (sym (add-one w)) h)

sub_lt_two : (r : ℕ) → 1 - r < 2
sub_lt_two r = omega arith

pub bit_not : (w a p : ℕ) → a < 2 ^ w → p < w → bit_at ((2 ^ w - 1) - a) p ≡ 1 - bit_at a p
bit_not zero a p h l = absurd (omega arith)
bit_not (suc w) a zero h l =
    bit_zero ((2 ^ suc w - 1) - a) ∙ ap (λ (x : ℕ). x % 2) (not_step w a h) ∙ low_digit ((2 ^ w - 1) - a / 2) (1 - a % 2) (sub_lt_two (a % 2))
    ∙ ap (λ (x : ℕ). 1 - x) (sym (bit_zero a))
bit_not (suc w) a (suc p) h l =
    bit_suc ((2 ^ suc w - 1) - a) p ∙ ap (λ (x : ℕ). bit_at (x / 2) p) (not_step w a h)
    ∙ ap (λ (x : ℕ). bit_at x p) (digits_div ((2 ^ w - 1) - a / 2) (sub_lt_two (a % 2)))
    ∙ bit_not w (a / 2) p (half_below w a h) (le_of_suc-le-suc l)
    ∙ ap (λ (x : ℕ). 1 - x) (sym (bit_suc a p))

-- two numbers of w bits with the same bits are equal
pub bits_ext : (w a b : ℕ) → a < 2 ^ w → b < 2 ^ w → ((p : ℕ) → p < w → bit_at a p ≡ bit_at b p) → a ≡ b
bits_ext zero a b h k e = omega arith
bits_ext (suc w) a b h k e =
    let lo : a % 2 ≡ b % 2 = sym (bit_zero a) ∙ e 0 (omega arith) ∙ bit_zero b in
    let hi : a / 2 ≡ b / 2 = bits_ext w (a / 2) (b / 2) (half_below w a h) (half_below w b k) (λ p l. sym (bit_suc a p) ∙ e (suc p) (suc-le-suc l) ∙ bit_suc b p) in
    omega (arith, div-add-mod' a 2, div-add-mod' b 2)
