-- Document 01, "Listing program and C host": "Standard input: n, eight owners (one byte each), then arrivals: length (two bytes, high
-- first), verdict, block".
use Rattle.std.specs.Prelude.{Bool, cond, ◌||◌, List, [], ◌∷◌, ℕ, zero, suc, ◌+◌, ltb, length, get_or, take, drop}
use Rattle.base.specs.Bytes.{Bytes}
use Rattle.base.specs.Number.{number_at}
use Rattle.setup.specs.Setup.{Setup, slot_count}
use Rattle.block.specs.Limits.{max_block_size}

-- how many bytes n and the owners take
abbrev pub setup_size : ℕ
setup_size = 1 + slot_count

-- the setup at the front of the input; that of a short input has too few owners, and so is not lawful
abbrev pub setup_in : Bytes → Setup
setup_in input = record { sites = get_or input 0 0; owners = take slot_count (drop 1 input) }

-- an arrival: a block with the link's verdict; or no block, because its length is one that no block has, or the input's end cuts it
pub data Arrival : Type 0 where
  arrived : Bytes → ℕ → Arrival
  unread : Arrival

-- how many bytes a length takes, and a verdict
abbrev pub length_size : ℕ
length_size = 2

abbrev pub verdict_size : ℕ
verdict_size = 1

-- the length that the arrival at the front tells for its block, and how many bytes the arrival takes
abbrev pub block_length : Bytes → ℕ
block_length input = number_at input 0

abbrev pub arrival_size : Bytes → ℕ
arrival_size input = length_size + (verdict_size + block_length input)

-- the length of the arrival at the front is over that of the longest block
abbrev pub overlong : Bytes → Bool
overlong input = ltb max_block_size (block_length input)

-- not all bytes of the arrival at the front are there
abbrev pub cut : Bytes → Bool
cut input = ltb (length input) (arrival_size input)

-- the verdict and the block of the arrival at the front, where all of its bytes are there, and the bytes behind it
abbrev pub first_verdict : Bytes → ℕ
first_verdict input = get_or input length_size 0

abbrev pub first_block : Bytes → Bytes
first_block input = take (block_length input) (drop (length_size + verdict_size) input)

abbrev pub after_first : Bytes → Bytes
after_first input = drop (arrival_size input) input

-- the arrival at the front
unfoldable pub first_arrival : Bytes → Arrival
first_arrival input = cond (overlong input || cut input) unread (arrived (first_block input) (first_verdict input))

-- the first arrivals of an input, at most `most`; nothing follows an arrival that is cut
unfoldable pub arrivals : ℕ → Bytes → List Arrival
arrivals zero input = []
arrivals (suc most) [] = []
arrivals (suc most) (x ∷ input) = first_arrival (x ∷ input) ∷ arrivals most (after_first (x ∷ input))

-- all arrivals of an input; there are no more than bytes, as each takes at least one
unfoldable pub arrivals_in : Bytes → List Arrival
arrivals_in input = arrivals (length input) input
