-- Laws of numbers and their bytes, the low byte first. Assumes nothing.
use mathlib.Core.Path.{◌≡◌, refl, ap, ◌∙◌}
use mathlib.Core.List.{[], ◌∷◌, ◌++◌}
use Prim.Native.Nat.{ℕ, zero, suc, ◌+◌, ◌*◌, ◌/◌, ◌%◌, ◌^◌, ◌<◌}
use native.Mathlib.Nat.{mul-suc}
use native.Mathlib.Numerals.{add-one}
use native.Mathlib.Omega.{arith}
use lib.Dec.{lit<}
use lib.Pow.{pow-add}
use lib.ListN.{length, get_or, drop, replicate}
use lib.Seq.{drop-cons}
use Rattle.base.specs.Bytes.{Bytes, AllBytes}
use Rattle.base.specs.LowFirst.{low_first, low_first_bytes}

pub length_low_first : (k x : ℕ) → length (low_first_bytes k x) ≡ k
unfolding low_first_bytes
length_low_first zero x = refl
length_low_first (suc k) x = ap suc (length_low_first k (x / 256))

pub bytes_low_first : (k x : ℕ) → AllBytes (low_first_bytes k x)
unfolding low_first_bytes
bytes_low_first zero x i = lit< tt
bytes_low_first (suc k) x zero = omega arith
bytes_low_first (suc k) x (suc i) = bytes_low_first k (x / 256) i

-- one byte more
byte_more : (k : ℕ) → 2 ^ (8 * suc k) ≡ 2 ^ (8 * k) * 256
byte_more k = ap (λ (n : ℕ). 2 ^ n) (mul-suc 8 k) ∙ pow-add 2 (8 * k) 8

pub low_first_below : (b : Bytes) → AllBytes b → low_first b < 2 ^ (8 * length b)
unfolding low_first
low_first_below [] a = lit< tt
low_first_below (x ∷ b) a = omega (arith, low_first_below b (λ i. a (suc i)), byte_more (length b), a 0)

-- one turn of the loop that reads the number, from the last byte to the first
pub low_first_drop : (b : Bytes) (i : ℕ) → i < length b → low_first (drop i b) ≡ low_first (drop (i + 1) b) * 256 + get_or b i 0
unfolding low_first
low_first_drop b i h = ap low_first (drop-cons b i 0 h) ∙ omega (arith, ap (λ (n : ℕ). low_first (drop n b)) (add-one i))

-- zeros behind the bytes change nothing
low_first_zeros : (k : ℕ) → low_first (replicate k 0) ≡ 0
unfolding low_first
low_first_zeros zero = refl
low_first_zeros (suc k) = omega (arith, low_first_zeros k)

pub low_first_padded : (b : Bytes) (k : ℕ) → low_first (b ++ replicate k 0) ≡ low_first b
unfolding low_first
low_first_padded [] k = low_first_zeros k
low_first_padded (x ∷ b) k = ap (λ (n : ℕ). x + 256 * n) (low_first_padded b k)

-- the number of a number's bytes
pub low_first_of_bytes : (k x : ℕ) → x < 2 ^ (8 * k) → low_first (low_first_bytes k x) ≡ x
unfolding low_first low_first_bytes
low_first_of_bytes zero x h = omega arith
low_first_of_bytes (suc k) x h =
    let l : x / 256 < 2 ^ (8 * k) = omega (arith, byte_more k) in
    ap (λ (n : ℕ). x % 256 + 256 * n) (low_first_of_bytes k (x / 256) l) ∙ omega arith

-- the bytes of their number
pub bytes_of_low_first : (b : Bytes) → AllBytes b → low_first_bytes (length b) (low_first b) ≡ b
unfolding low_first low_first_bytes
bytes_of_low_first [] a = refl
bytes_of_low_first (x ∷ b) a =
    let l : x < 256 = a 0 in
    let low : (x + 256 * low_first b) % 256 ≡ x = omega arith in
    let high : (x + 256 * low_first b) / 256 ≡ low_first b = omega arith in
    rw (low, high, bytes_of_low_first b (λ i. a (suc i)))
