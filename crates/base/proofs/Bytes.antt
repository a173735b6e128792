-- Laws of byte strings: when two are equal, and that what is made of bytes is bytes. Assumes nothing.
use mathlib.Core.Path.{◌≡◌, refl, sym, ap, ap₂, ◌∙◌}
use mathlib.Core.Bool.{Bool, true, false, ◌&&◌}
use mathlib.Core.List.{List, [], ◌∷◌, ◌++◌}
use Prim.Native.Nat.{ℕ, zero, suc, ◌+◌, ◌≤◌, ◌<◌, suc-le-suc}
use native.Mathlib.Omega.{arith}
use lib.Bits.{or_zero_r, or_add_and, and_le_l}
use lib.Dec.{eqb, lit<}
use lib.ListN.{length, get_or, take, drop, replicate}
use lib.Seq.{get_or-take, get_or-drop, length-take-le}
use borrow.Author.Tests.{eqb-true, eqb-false, eq-eqb, ne_eqb}
use Rattle.base.proofs.Tests.{by_test, and_false}
use Rattle.std.specs.Prelude.{fold, bit_or}
use Rattle.std.specs.Cmp.Lexicographic.{pointwise}
use Rattle.base.specs.Bytes.{Bytes, AllBytes, same_bytes, all_zero, concat}
use Rattle.base.proofs.Tests.{true_not_false, not_true_false, and_left, and_right}

pub same_equal : (a b : Bytes) → same_bytes a b ≡ true → a ≡ b
unfolding same_bytes
same_equal [] [] e = refl
same_equal [] (y ∷ b) e = true_not_false e refl
same_equal (x ∷ a) [] e = true_not_false e refl
same_equal (x ∷ a) (y ∷ b) e = ap₂ ◌∷◌ (eqb-true x y (search and_left)) (same_equal a b (search and_right))

pub same_refl : (a : Bytes) → same_bytes a a ≡ true
unfolding same_bytes
same_refl [] = refl
same_refl (x ∷ a) = rw (eq-eqb x x refl, same_refl a)

pub equal_same : (a b : Bytes) → a ≡ b → same_bytes a b ≡ true
equal_same a b e = rw e (same_refl b)

pub other_same : (a b : Bytes) → (a ≡ b → ⊥) → same_bytes a b ≡ false
other_same a b n = not_true_false (same_bytes a b) (λ e. n (same_equal a b e))

pub same_other : (a b : Bytes) → same_bytes a b ≡ false → a ≡ b → ⊥
same_other a b n e = true_not_false (equal_same a b e) n

-- ---- zeros

pub zero_at : (b : Bytes) → all_zero b ≡ true → (i : ℕ) → get_or b i 0 ≡ 0
unfolding all_zero
zero_at [] e i = refl
zero_at (x ∷ b) e zero = eqb-true x 0 (search and_left)
zero_at (x ∷ b) e (suc i) = zero_at b (search and_right) i

pub all_zero_lem : (b : Bytes) → ((i : ℕ) → i < length b → get_or b i 0 ≡ 0) → all_zero b ≡ true
unfolding all_zero
all_zero_lem [] z = refl
all_zero_lem (x ∷ b) z = rw (eq-eqb x 0 (z 0 (omega arith)), all_zero_lem b (λ i h. z (suc i) (suc-le-suc h)))

-- a byte string is all zero where no bit of it is 1
no_bit_more : (bits x : ℕ) (t : Bool) → (eqb (bit_or bits x) 0 && t) ≡ (eqb bits 0 && (eqb x 0 && t))
no_bit_more bits x t = by_test (eqb x 0)
    (λ y. rw (eqb-true x 0 y, or_zero_r bits) refl)
    (λ n. rw (n, ne_eqb (bit_or bits x) 0 (λ e. eqb-false x 0 n (omega (arith, or_add_and bits x, and_le_l bits x, e)))) (sym (and_false (eqb bits 0))))

pub no_bit : (b : Bytes) (bits : ℕ) → eqb (fold bit_or bits b) 0 ≡ (eqb bits 0 && all_zero b)
unfolding all_zero
no_bit [] bits = go (eqb bits 0)
  where
    go : (t : Bool) → t ≡ (t && true)
    go true = refl
    go false = refl
no_bit (x ∷ b) bits = no_bit b (bit_or bits x) ∙ no_bit_more bits x (all_zero b)

-- equality of the library's slices
pub same_pointwise : (a b : Bytes) → pointwise eqb a b ≡ same_bytes a b
unfolding same_bytes
same_pointwise [] [] = refl
same_pointwise [] (y ∷ ys) = refl
same_pointwise (x ∷ xs) [] = refl
same_pointwise (x ∷ xs) (y ∷ ys) = ap (λ (t : Bool). eqb x y && t) (same_pointwise xs ys)

pub zeros_drop : (n : ℕ) (b : Bytes) → all_zero b ≡ true → all_zero (drop n b) ≡ true
zeros_drop n b e = all_zero_lem (drop n b) (λ i h. get_or-drop n b i 0 ∙ zero_at b e (n + i))

pub zeros_append : (a b : Bytes) → all_zero a ≡ true → all_zero b ≡ true → all_zero (a ++ b) ≡ true
unfolding all_zero
zeros_append [] b p q = q
zeros_append (x ∷ a) b p q = rw (and_left (eqb x 0) (all_zero a) p, zeros_append a b (and_right (eqb x 0) (all_zero a) p) q)

pub zeros_replicate : (b : Bytes) → all_zero b ≡ true → b ≡ replicate (length b) 0
unfolding all_zero
zeros_replicate [] e = refl
zeros_replicate (x ∷ b) e = ap₂ ◌∷◌ (eqb-true x 0 (search and_left)) (zeros_replicate b (search and_right))

pub zeros_take : (n : ℕ) (b : Bytes) → n ≤ length b → all_zero b ≡ true → take n b ≡ replicate n 0
zeros_take n b h e =
    let l : length (take n b) ≡ n = length-take-le n b h in
    zeros_replicate (take n b) (all_zero_lem (take n b) (λ i k. get_or-take n b i 0 (omega arith) ∙ zero_at b e i)) ∙ ap (λ (m : ℕ). replicate m 0) l

pub replicate_zeros : (n : ℕ) → all_zero (replicate n 0) ≡ true
unfolding all_zero
replicate_zeros zero = refl
replicate_zeros (suc n) = replicate_zeros n

-- ---- bytes below 256

pub bytes_drop : (n : ℕ) (b : Bytes) → AllBytes b → AllBytes (drop n b)
bytes_drop n b a i = rw (get_or-drop n b i 0) (a (n + i))

pub bytes_take : (n : ℕ) (b : Bytes) → AllBytes b → AllBytes (take n b)
bytes_take zero b a i = lit< tt
bytes_take (suc n) [] a i = lit< tt
bytes_take (suc n) (x ∷ b) a zero = a 0
bytes_take (suc n) (x ∷ b) a (suc i) = bytes_take n b (λ j. a (suc j)) i

pub bytes_append : (a b : Bytes) → AllBytes a → AllBytes b → AllBytes (a ++ b)
bytes_append [] b p q i = q i
bytes_append (x ∷ a) b p q zero = p 0
bytes_append (x ∷ a) b p q (suc i) = bytes_append a b (λ j. p (suc j)) q i

pub bytes_concat : (xs : List Bytes) → ((i : ℕ) → i < length xs → AllBytes (get_or xs i [])) → AllBytes (concat xs)
unfolding concat
bytes_concat [] p i = lit< tt
bytes_concat (x ∷ xs) p i = bytes_append x (concat xs) (p 0 (omega arith)) (bytes_concat xs (λ j h. p (suc j) (suc-le-suc h))) i
