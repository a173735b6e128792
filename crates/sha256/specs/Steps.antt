-- What only the contracts of inner functions cite, besides the standard's definitions. `sha256` does not use it, so nothing here need be believed.
-- Assumes nothing.
use Rattle.std.specs.Prelude.{ℕ, ◌+◌, ◌/◌, ◌%◌}

-- how many blocks of the padded message follow the whole blocks of a message of `len` bytes
abbrev pub tail_blocks : ℕ → ℕ
tail_blocks len = (len % 64 + 9 + 63) / 64
