-- A number as any count of bytes, the low byte first. Assumes nothing.
use Rattle.std.specs.Prelude.{[], ◌∷◌, ℕ, zero, suc, ◌+◌, ◌*◌, ◌/◌, ◌%◌, take, drop}
use Rattle.base.specs.Bytes.{Bytes}

-- how many bytes a 64-bit number has
abbrev pub word_size : ℕ
word_size = 8

-- the number that the bytes stand for
unfoldable pub low_first : Bytes → ℕ
low_first [] = 0
low_first (x ∷ b) = x + 256 * low_first b

-- the 64-bit number at an index of a byte string
abbrev pub low_first_at : Bytes → ℕ → ℕ
low_first_at b at = low_first (take word_size (drop at b))

-- the lowest k bytes of a number
unfoldable pub low_first_bytes : ℕ → ℕ → Bytes
low_first_bytes zero x = []
low_first_bytes (suc k) x = x % 256 ∷ low_first_bytes k (x / 256)
