-- The table as bytes: where each field stands, and the bytes of a setup and its blocks.
--
--   byte 0        n
--   bytes 1 to 8  the owners
--   byte 9        1 if something has been retired, 0 if not
--   byte 10       count
--   11 on         64 rows of 60 bytes, one for each place:
--
--     bytes 0 to 31   digest
--     byte 32         site
--     bytes 33, 34    sequence number, high byte first
--     bytes 35 to 42  the places referred to: a mask, low byte first
--     bytes 43 to 58  the counted requests, two bytes for each slot, high byte first
--     byte 59         1 if it is interpreted, 0 if not
use Rattle.std.specs.Prelude.{[], ◌∷◌, ◌++◌, ℕ, ◌+◌, ◌-◌, ◌*◌, get_or, take, drop, replicate}
use Rattle.base.specs.Mask.{mask_below, in_mask}
use Rattle.base.specs.List.{list_below}
use Rattle.base.specs.Bytes.{Bytes, concat, splice}
use Rattle.base.specs.Number.{number_at, pair}
use Rattle.base.specs.LowFirst.{word_size, low_first_at, low_first_bytes}
use Rattle.setup.specs.Setup.{Setup, slot_count}
use Rattle.block.specs.Limits.{reference_size}
use Rattle.table.specs.View.{max_places, Row, View}

-- ---- where each field stands

abbrev pub owners_offset : ℕ
owners_offset = 1

abbrev pub retired_offset : ℕ
retired_offset = owners_offset + slot_count

abbrev pub count_offset : ℕ
count_offset = retired_offset + 1

abbrev pub rows_offset : ℕ
rows_offset = count_offset + 1

-- the offsets within a row, which begins with the digest
abbrev pub site_offset : ℕ
site_offset = reference_size

abbrev pub sequence_offset : ℕ
sequence_offset = site_offset + 1

abbrev pub references_offset : ℕ
references_offset = sequence_offset + 2

abbrev pub requests_offset : ℕ
requests_offset = references_offset + word_size

abbrev pub mark_offset : ℕ
mark_offset = requests_offset + 2 * slot_count

-- 60 bytes
abbrev pub row_size : ℕ
row_size = mark_offset + 1

-- where the row of a place begins
abbrev pub row_start : ℕ → ℕ
row_start i = rows_offset + row_size * i

-- 3,851 bytes
abbrev pub table_size : ℕ
table_size = row_start max_places

-- ---- what a table's bytes show

abbrev pub setup_of : Bytes → Setup
setup_of t = record { sites = get_or t 0 0; owners = take slot_count (drop owners_offset t) }

-- "A table keeps whether it has retired anything"
abbrev pub retired_of : Bytes → ℕ
retired_of t = get_or t retired_offset 0

abbrev pub count_of : Bytes → ℕ
count_of t = get_or t count_offset 0

abbrev pub digest_at : Bytes → ℕ → Bytes
digest_at t i = take reference_size (drop (row_start i) t)

abbrev pub site_at : Bytes → ℕ → ℕ
site_at t i = get_or t (row_start i + site_offset) 0

abbrev pub sequence_at : Bytes → ℕ → ℕ
sequence_at t i = number_at t (row_start i + sequence_offset)

abbrev pub references_at : Bytes → ℕ → ℕ
references_at t i = low_first_at t (row_start i + references_offset)

abbrev pub counted_request_at : Bytes → ℕ → ℕ → ℕ
counted_request_at t i slot = number_at t (row_start i + requests_offset + 2 * slot)

abbrev pub mark_at : Bytes → ℕ → ℕ
mark_at t i = get_or t (row_start i + mark_offset) 0

abbrev pub row_at : Bytes → ℕ → Row
row_at t i =
    record {
      digest = digest_at t i;
      site = site_at t i;
      sequence = sequence_at t i;
      refers_to = in_mask (references_at t i);
      request = counted_request_at t i;
      mark = mark_at t i;
    }

abbrev pub view_of : Bytes → View
view_of t = record { retired = retired_of t; held = count_of t; row = row_at t }

-- ---- the bytes of a setup and of what is held

-- the bytes of a row
unfoldable pub row_bytes : Row → Bytes
row_bytes r =
    r.digest
    ++ (r.site
    ∷ (pair r.sequence
    ++ (low_first_bytes word_size (mask_below r.refers_to max_places)
    ++ (concat (list_below (λ slot. pair (r.request slot)) slot_count)
    ++ (r.mark ∷ [])))))

-- the table of this setup that holds what the view shows. "Entries from the count on are zero"
unfoldable pub layout : Setup → View → Bytes
layout s v =
    s.sites
    ∷ (s.owners
    ++ (v.retired
    ∷ (v.held
    ∷ (concat (list_below (λ i. row_bytes (v.row i)) v.held)
    ++ replicate (row_size * (max_places - v.held)) 0))))

-- a table with a row at the next place, and the count one more
unfoldable pub with_row : Bytes → Row → Bytes
with_row t r = splice (splice t (row_start (count_of t)) (row_bytes r)) count_offset ((count_of t + 1) ∷ [])

-- a table with a place marked interpreted
unfoldable pub with_mark : Bytes → ℕ → Bytes
with_mark t i = splice t (row_start i + mark_offset) (1 ∷ [])
