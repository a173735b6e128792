-- Request Eleven, as far as it is about records: "move every other place and record down by one; the buffer from the new count on stays".
use Rattle.std.specs.Prelude.{◌≡◌, List, ℕ, suc, ◌-◌, ◌<◌, length, take, drop}
use Rattle.base.specs.Bytes.{splice}
use Rattle.records.specs.Layout.{part_size, part_start, part_of}

-- the buffer of k held places with the parts of the places 1 to k - 1 each one place lower; "the buffer from the new count on stays"
unfoldable pub moved_parts : List ℕ → ℕ → List ℕ
moved_parts buffer k = splice buffer 0 (take (part_start (k - 1)) (drop part_size buffer))

-- buffer' is the buffer with the parts of the places 1 to k - 1 each one place lower, and from place k - 1 on it is as it was
pub record Moved (buffer buffer' : List ℕ) (k : ℕ) : Type 0 where
  pub size : length buffer' ≡ length buffer
  pub lower : (i : ℕ) → i < k - 1 → part_of buffer' i ≡ part_of buffer (suc i)
  pub rest : drop (part_start (k - 1)) buffer' ≡ drop (part_start (k - 1)) buffer
