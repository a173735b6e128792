-- Numbers of two bytes, the high byte first. Assumes nothing.
use Rattle.std.specs.Prelude.{[], ◌∷◌, ℕ, ◌+◌, ◌*◌, ◌/◌, ◌%◌, get_or}
use Rattle.base.specs.Bytes.{Bytes}

-- the number of two bytes
abbrev pub number : ℕ → ℕ → ℕ
number high low = high * 256 + low

-- the number whose two bytes stand at indexes i and i + 1 of a byte string
abbrev pub number_at : Bytes → ℕ → ℕ
number_at b i = number (get_or b i 0) (get_or b (i + 1) 0)

-- the two bytes of a number below 65,536
abbrev pub pair : ℕ → Bytes
pair x = x / 256 ∷ x % 256 ∷ []
