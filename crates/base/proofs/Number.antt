-- Laws of numbers of two bytes: a number and its pair of bytes determine each other. Assumes nothing.
use mathlib.Core.Path.{◌≡◌, sym, ap, ap₂, ◌∙◌}
use mathlib.Core.List.{[], ◌∷◌}
use Prim.Native.Nat.{ℕ, suc, ◌+◌, ◌/◌, ◌%◌, ◌<◌}
use native.Mathlib.Nat.{add-zero}
use native.Mathlib.Numerals.{add-one}
use native.Mathlib.Omega.{arith}
use lib.ListN.{length, get_or, take, drop}
use lib.Seq.{drop-cons, get_or-take, get_or-drop}
use Rattle.base.specs.Bytes.{Bytes}
use Rattle.base.specs.Number.{number, number_at, pair}

pub number_high : (high low : ℕ) → low < 256 → number high low / 256 ≡ high
number_high high low h = omega arith

pub number_low : (high low : ℕ) → low < 256 → number high low % 256 ≡ low
number_low high low h = omega arith

pub number_pair : (x : ℕ) → number_at (pair x) 0 ≡ x
number_pair x = omega arith

pub number_below : (high low : ℕ) → high < 256 → low < 256 → number high low < 65536
number_below high low h l = omega arith

pub high_below : (x : ℕ) → x < 65536 → x / 256 < 256
high_below x h = omega arith

-- where a pair of bytes stands in others, and the number that is read there
pub number_of_part : (b : Bytes) (i x : ℕ) → take 2 (drop i b) ≡ pair x → number_at b i ≡ x
number_of_part b i x e =
    ap₂ number (ap (λ (n : ℕ). get_or b n 0) (sym (add-zero i)) ∙ at 0 (omega arith)) (at 1 (omega arith)) ∙ ap (λ (p : Bytes). number_at p 0) e ∙ number_pair x
  where
    at : (j : ℕ) → j < 2 → get_or b (i + j) 0 ≡ get_or (take 2 (drop i b)) j 0
    at j h = sym (get_or-take 2 (drop i b) j 0 h ∙ get_or-drop i b j 0)

pub part_of_number : (b : Bytes) (i : ℕ) → i + 1 < length b → get_or b (i + 1) 0 < 256 → pair (number_at b i) ≡ take 2 (drop i b)
part_of_number b i h l =
    let two : drop i b ≡ get_or b i 0 ∷ get_or b (i + 1) 0 ∷ drop (suc (i + 1)) b =
    drop-cons b i 0 (omega arith) ∙ ap (λ (n : ℕ). get_or b i 0 ∷ drop n b) (sym (add-one i)) ∙ ap (λ (x : Bytes). get_or b i 0 ∷ x) (drop-cons b (i + 1) 0 h) in
    ap₂ (λ (x y : ℕ). x ∷ y ∷ []) (number_high (get_or b i 0) (get_or b (i + 1) 0) l) (number_low (get_or b i 0) (get_or b (i + 1) 0) l) ∙ sym (ap (take 2) two)
