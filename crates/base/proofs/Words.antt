-- What the library's conversions of numbers and bytes are, in the words of the definitions. Assumes nothing.
use mathlib.Core.Path.{◌≡◌, refl, ap, sym, ◌∙◌}
use Prim.Native.Nat.{ℕ, ◌+◌, ◌*◌, ◌/◌, ◌%◌, ◌<◌, ◌^◌}
use native.Mathlib.Nat.{div-div-eq-div-mul}
use mathlib.Core.List.{[], ◌∷◌}
use native.Mathlib.Omega.{arith}
use lib.ListN.{length, get_or, drop}
use lib.Seq.{drop-length}
use Rattle.std.specs.Int.{w16, w64, to_le_bytes, to_be_bytes, from_le_bytes, from_be_bytes}
use Rattle.base.specs.Bytes.{Bytes}
use Rattle.base.specs.Number.{number, pair}
use Rattle.base.specs.LowFirst.{word_size, low_first, low_first_bytes}
use Rattle.base.proofs.LowFirst.{low_first_drop}

pub low_first_of_word : (x : ℕ) → to_le_bytes w64 x ≡ low_first_bytes word_size x
unfolding low_first_bytes
low_first_of_word x = simp (div-div-eq-div-mul) refl

none : (b : Bytes) → length b ≡ word_size → low_first (drop word_size b) ≡ 0
unfolding low_first
none b e = ap (λ (n : ℕ). low_first (drop n b)) (sym e) ∙ ap low_first (drop-length b)

pub word_of_low_first : (b : Bytes) → length b ≡ word_size → from_le_bytes w64 b ≡ low_first b
word_of_low_first b e =
    let step : (i : ℕ) → i < word_size → low_first (drop i b) ≡ low_first (drop (i + 1) b) * 256 + get_or b i 0 = λ i h. low_first_drop b i (rw e h) in
    omega (
      arith,
      step 0 (omega arith),
      step 1 (omega arith),
      step 2 (omega arith),
      step 3 (omega arith),
      step 4 (omega arith),
      step 5 (omega arith),
      step 6 (omega arith),
      step 7 (omega arith),
      none b e,
    )

pub pair_of_number : (x : ℕ) → x < 2 ^ 16 → to_be_bytes w16 x ≡ pair x
pair_of_number x h = let e : x / 256 % 256 ≡ x / 256 = omega arith in rw e refl

pub number_of_pair : (a b : ℕ) → from_be_bytes w16 (a ∷ b ∷ []) ≡ number a b
number_of_pair a b = omega arith
