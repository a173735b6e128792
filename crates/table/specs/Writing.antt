-- What requests Twelve and Eleven write into a table. Twelve takes the last place back. Eleven retires place 0: "References to it vanish from the
-- sets", and every other place moves down by one.
use Rattle.std.specs.Prelude.{◌&&◌, [], ◌∷◌, ◌++◌, ℕ, suc, ◌-◌, ltb, take, drop, replicate}
use Rattle.base.specs.Mask.{mask_below}
use Rattle.base.specs.List.{list_below}
use Rattle.base.specs.Bytes.{Bytes, concat, splice}
use Rattle.base.specs.LowFirst.{word_size, low_first_bytes}
use Rattle.table.specs.View.{max_places, Row, View}
use Rattle.table.specs.Layout.{retired_offset, count_offset, references_offset, row_size, row_start, count_of, row_at}

-- ---- the last place is taken back

-- the view without its last place; whether something has been retired stays
abbrev pub without_last : View → View
without_last v = record { retired = v.retired; held = v.held - 1; row = v.row }

-- the table with zeros at its last place, in every field, and the count one less
unfoldable pub without_row : Bytes → Bytes
without_row t = splice (splice t (row_start (count_of t - 1)) (replicate row_size 0)) count_offset ((count_of t - 1) ∷ [])

-- ---- place 0 is retired

-- a row after every place has moved down by one: references to place 0 vanish, and a reference to place j + 1, which is below 64, is to place j
abbrev pub moved_row : Row → Row
moved_row r =
    record {
      digest = r.digest;
      site = r.site;
      sequence = r.sequence;
      refers_to = λ j. ltb (suc j) max_places && r.refers_to (suc j);
      request = r.request;
      mark = r.mark;
    }

-- the view without place 0, all other places one lower; "A table keeps whether it has retired anything"
abbrev pub without_first : View → View
without_first v = record { retired = 1; held = v.held - 1; row = λ i. moved_row (v.row (suc i)) }

-- the bytes of the row of place i after every place has moved down by one: only the places referred to change
unfoldable pub moved_bytes : Bytes → ℕ → Bytes
moved_bytes t i = splice (take row_size (drop (row_start i) t)) references_offset (low_first_bytes word_size (mask_below (moved_row (row_at t i)).refers_to max_places))

-- the bytes of the rows of the places 1 to k, after every place has moved down by one
abbrev pub moved_rows : Bytes → ℕ → Bytes
moved_rows t k = concat (list_below (λ i. moved_bytes t (suc i)) k)

-- the table without place 0: something has been retired, the count is one less, the other rows stand one place lower, and zeros stand at the place
-- that was the last
unfoldable pub move_down : Bytes → Bytes
move_down t = splice t retired_offset (1 ∷ ((count_of t - 1) ∷ (moved_rows t (count_of t - 1) ++ replicate row_size 0)))
