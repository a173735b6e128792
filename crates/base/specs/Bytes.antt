-- Byte strings: their parts, their equality, and one put into another. Assumes nothing.
use Rattle.std.specs.Prelude.{Bool, true, false, ◌&&◌, List, [], ◌∷◌, ◌++◌, ℕ, zero, suc, ◌+◌, ◌*◌, ◌<◌, eqb, length, get_or, take, drop}

abbrev pub Bytes : Type 0
Bytes = List ℕ

-- every element is a byte
abbrev pub AllBytes : Bytes → Type 0
AllBytes b = (i : ℕ) → get_or b i 0 < 256

-- whether two byte strings are equal
unfoldable pub same_bytes : Bytes → Bytes → Bool
same_bytes [] [] = true
same_bytes [] (y ∷ ys) = false
same_bytes (x ∷ xs) [] = false
same_bytes (x ∷ xs) (y ∷ ys) = eqb x y && same_bytes xs ys

-- whether every byte is 0
unfoldable pub all_zero : Bytes → Bool
all_zero [] = true
all_zero (x ∷ xs) = eqb x 0 && all_zero xs

-- part i, counted from 0, of a byte string that is cut in parts of `size` bytes
abbrev pub part_at : ℕ → Bytes → ℕ → Bytes
part_at size b i = take size (drop (size * i) b)

-- the first k parts of a byte string that is cut in parts of `size` bytes
unfoldable pub parts : ℕ → ℕ → Bytes → List Bytes
parts zero size b = []
parts (suc k) size b = take size b ∷ parts k size (drop size b)

-- the byte strings of a list, one after the other
unfoldable pub concat : List Bytes → Bytes
concat [] = []
concat (x ∷ xs) = x ++ concat xs

-- the list `b` with `part` written over it from index `at` on, all other items as they were
unfoldable pub splice : {A : Type 0} → List A → ℕ → List A → List A
splice b at part = take at b ++ (part ++ drop (at + length part) b)
