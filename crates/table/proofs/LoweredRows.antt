-- A table whose rows moved down by one: what it shows is the view without its first place, and its rows stand as the bytes of the rows that
-- they show where they did before. Assumes nothing.
use mathlib.Core.Path.{◌≡◌, sym, ap, ap₂, ◌∙◌, subst}
use mathlib.Core.Bool.{true}
use mathlib.Core.List.{List, [], ◌∷◌, ◌++◌, append_assoc}
use Prim.Native.Nat.{ℕ, suc, ◌+◌, ◌-◌, ◌*◌, ◌≤◌, ◌<◌}
use native.Mathlib.Omega.{arith}
use lib.ListN.{length, get_or, take, drop, replicate, length-append, length-replicate, length-drop}
use lib.Seq.{drop_at, length-take-le, drop-append-add}
use Rattle.base.specs.Mask.{mask_below, in_mask}
use Rattle.base.specs.List.{list_below}
use Rattle.base.specs.Bytes.{Bytes, all_zero, parts, splice}
use Rattle.base.specs.Number.{number}
use Rattle.base.specs.LowFirst.{word_size, low_first, low_first_bytes}
use Rattle.base.proofs.Bytes.{zeros_append, replicate_zeros}
use Rattle.base.proofs.List.{length_list, list_at}
use Rattle.base.proofs.Mask.{mask_below_lem}
use Rattle.base.proofs.Sets.{mask_has}
use Rattle.base.proofs.Parts.{EachSize, parts_at, parts_joined, length_joined}
use Rattle.base.proofs.Splice.{splice_low, splice_in, splice_high, splice_part_low, splice_part_in, length_splice}
use Rattle.base.proofs.LowFirst.{length_low_first, low_first_of_bytes}
use Rattle.setup.specs.Setup.{slot_count}
use Rattle.block.specs.Limits.{reference_size}
use Rattle.table.specs.View.{max_places, SameRow}
use Rattle.table.specs.Layout.{owners_offset, retired_offset, rows_offset, site_offset, sequence_offset, references_offset, requests_offset, mark_offset, row_size, row_start, table_size, setup_of, count_of, row_at, view_of, row_bytes}
use Rattle.table.specs.Writing.{moved_row, without_first, moved_bytes, moved_rows, move_down}
use Rattle.table.specs.Promises.{Shows}
use Rattle.table.proofs.Views.{row_sym, row_trans}
use Rattle.table.proofs.RowBytes.{row_in, row_part, row_in_lem, row_bytes_same, references_put}
use Rattle.table.proofs.Canonical.{Canonical}

-- ---- one row

module _ (t : Bytes) (i : ℕ) (fits : row_start (suc i) ≤ length t) where
  abbrev b : Bytes
  b = row_part t i

  b_length : length b ≡ row_size
  b_length = length-take-le row_size (drop (row_start i) t) (omega (arith, length-drop (row_start i) t))

  abbrev mask : ℕ
  mask = mask_below (moved_row (row_at t i)).refers_to max_places

  abbrev new : Bytes
  new = low_first_bytes word_size mask

  new_length : length new ≡ word_size
  new_length = length_low_first word_size mask

  within : references_offset ≤ length b
  within = omega (arith, b_length)

  pub moved_length : length (moved_bytes t i) ≡ row_size
  unfolding moved_bytes
  moved_length = length_splice b references_offset new (omega (arith, b_length, new_length)) ∙ b_length

  low : (j : ℕ) → j < references_offset → get_or (moved_bytes t i) j 0 ≡ get_or b j 0
  unfolding moved_bytes
  low j h = splice_low b references_offset new within j h

  high : (j : ℕ) → requests_offset ≤ j → get_or (moved_bytes t i) j 0 ≡ get_or b j 0
  unfolding moved_bytes
  high j h = splice_high b references_offset new within j (omega (arith, new_length))

  digest_kept : take reference_size (moved_bytes t i) ≡ take reference_size b
  unfolding moved_bytes
  digest_kept = splice_part_low b references_offset new within 0 reference_size (omega arith)

  references_there : take word_size (drop references_offset (moved_bytes t i)) ≡ new
  unfolding moved_bytes
  references_there = ap (λ (n : ℕ). take n (drop references_offset (splice b references_offset new))) (sym new_length) ∙ splice_part_in b references_offset new within

  pub moved_shows : SameRow (row_in (moved_bytes t i)) (moved_row (row_at t i))
  moved_shows =
      let r = row_sym (row_at t i) (row_in b) (row_in_lem t i) in
      record {
        digest = digest_kept ∙ r.digest;
        site = low site_offset (omega arith) ∙ r.site;
        sequence = ap₂ number (low sequence_offset (omega arith)) (low (sequence_offset + 1) (omega arith)) ∙ r.sequence;
        refers_to = λ j h.
            ap (λ (x : Bytes). in_mask (low_first x) j) references_there
            ∙ ap (λ (m : ℕ). in_mask m j) (low_first_of_bytes word_size mask (mask_below_lem (moved_row (row_at t i)).refers_to max_places))
            ∙ mask_has (moved_row (row_at t i)).refers_to max_places j h;
        request = λ slot h. ap₂ number (high (requests_offset + 2 * slot) (omega arith)) (high (requests_offset + 2 * slot + 1) (omega arith)) ∙ r.request slot h;
        mark = high mark_offset (omega arith) ∙ r.mark;
      }

-- ---- several rows

module _ (t : Bytes) (size : length t ≡ table_size) (k : ℕ) (h : k < max_places) where
  pub each_moved : EachSize row_size (list_below (λ i. moved_bytes t (suc i)) k)
  each_moved i l =
      let m : i < k = omega (arith, length_list (λ i. moved_bytes t (suc i)) k) in
      ap length (list_at (λ i. moved_bytes t (suc i)) k i [] m) ∙ moved_length t (suc i) (omega arith)

  pub rows_length : length (moved_rows t k) ≡ row_size * k
  rows_length = length_joined row_size (list_below (λ i. moved_bytes t (suc i)) k) each_moved ∙ ap (λ (n : ℕ). row_size * n) (length_list (λ i. moved_bytes t (suc i)) k)

-- ---- the table

module _ (t : Bytes) (size : length t ≡ table_size) (some : 0 < count_of t) (few : count_of t ≤ max_places) (zeros : all_zero (drop (row_start (count_of t)) t) ≡ true) where
  abbrev k : ℕ
  k = count_of t - 1

  abbrev row : ℕ → Bytes
  row i = moved_bytes t (suc i)

  each : EachSize row_size (list_below row k)
  each = each_moved t size k (omega arith)

  abbrev rows : Bytes
  rows = moved_rows t k

  rows_there_length : length rows ≡ row_size * k
  rows_there_length = rows_length t size k (omega arith)

  abbrev last : Bytes
  last = replicate row_size 0

  last_length : length last ≡ row_size
  last_length = length-replicate {A = ℕ} row_size 0

  abbrev part : Bytes
  part = 1 ∷ (k ∷ (rows ++ last))

  part_length : length part ≡ 2 + row_size * count_of t
  part_length = let e = length-append rows last in omega (arith, rows_there_length, last_length)

  abbrev t' : Bytes
  t' = splice t retired_offset part

  inside : retired_offset ≤ length t
  inside = omega arith

  front : Bytes
  front = take retired_offset t

  front_length : length front ≡ retired_offset
  unfolding front
  front_length = length-take-le retired_offset t (omega arith)

  behind : Bytes
  behind = drop (retired_offset + length part) t

  -- from the rows on
  rows_there : (n : ℕ) → drop (rows_offset + n) t' ≡ drop n ((rows ++ last) ++ behind)
  unfolding splice front behind
  rows_there n =
      let e : rows_offset + n ≡ length front + (2 + n) = omega (arith, front_length) in
      ap (λ (m : ℕ). drop m (front ++ (part ++ behind))) e ∙ drop-append-add front (part ++ behind) (2 + n) ∙ past n
    where
      past : (n : ℕ) → drop (2 + n) (part ++ behind) ≡ drop n ((rows ++ last) ++ behind)
      past n = let e : 2 + n ≡ suc (suc n) = omega arith in ap (λ (m : ℕ). drop m (part ++ behind)) e

  part_there : (i : ℕ) → i < k → row_part t' i ≡ row i
  part_there i h =
      ap (take row_size) (rows_there (row_size * i) ∙ ap (drop (row_size * i)) (append_assoc rows last behind))
      ∙ sym (parts_at k row_size (rows ++ (last ++ behind)) i h)
      ∙ ap (λ (n : ℕ). get_or (parts n row_size (rows ++ (last ++ behind))) i []) (sym (length_list row k))
      ∙ ap (λ (x : List Bytes). get_or x i []) (parts_joined row_size (list_below row k) (last ++ behind) each)
      ∙ list_at row k i [] h

  row_there : (i : ℕ) → i < k → SameRow (row_at t' i) (moved_row (row_at t (suc i)))
  row_there i h =
      row_trans (row_at t' i) (row_in (row_part t' i)) (moved_row (row_at t (suc i))) (row_in_lem t' i)
      (subst (λ (b : Bytes). SameRow (row_in b) (moved_row (row_at t (suc i)))) (sym (part_there i h)) (moved_shows t (suc i) (omega arith)))

  zeros_there : all_zero (drop (row_start k) t') ≡ true
  unfolding behind
  zeros_there =
      let n : retired_offset + length part ≡ row_start (count_of t) = omega (arith, part_length) in
      ap all_zero (rows_there (row_size * k) ∙ ap (drop (row_size * k)) (append_assoc rows last behind) ∙ drop_at rows (last ++ behind) (row_size * k) rows_there_length)
      ∙ zeros_append last behind (replicate_zeros row_size) (ap (λ (m : ℕ). all_zero (drop m t)) n ∙ zeros)

  pub down_shows : Shows (setup_of t) (without_first (view_of t)) (move_down t)
  unfolding move_down
  down_shows =
      record {
        size = length_splice t retired_offset part (omega (arith, part_length)) ∙ size;
        setup = ap₂ (λ (x : ℕ) (y : Bytes). record { sites = x; owners = y }) (splice_low t retired_offset part inside 0 (omega arith))
            (splice_part_low t retired_offset part inside owners_offset slot_count (omega arith));
        retired = splice_in t retired_offset part inside 0 (omega (arith, part_length));
        count = splice_in t retired_offset part inside 1 (omega (arith, part_length));
        rows = row_there;
        zeros = zeros_there;
      }

  down_part : (i : ℕ) → i < k → row_part (move_down t) i ≡ row i
  unfolding move_down
  down_part i h = part_there i h

  -- a row that stands as its bytes does so one place lower
  moved_bytes_lem : (i : ℕ) → i < k → row_bytes (row_at t (suc i)) ≡ row_part t (suc i) → row_bytes (moved_row (row_at t (suc i))) ≡ row i
  unfolding moved_bytes
  moved_bytes_lem i h e =
      let whole : length (row_at t (suc i)).digest ≡ reference_size =
      length-take-le reference_size (drop (row_start (suc i)) t) (omega (arith, length-drop (row_start (suc i)) t)) in
      sym (references_put (row_at t (suc i)) whole (moved_row (row_at t (suc i))).refers_to)
      ∙ ap (λ (b : Bytes). splice b references_offset (low_first_bytes word_size (mask_below (moved_row (row_at t (suc i))).refers_to max_places))) e

  pub down_canonical : Canonical t → Canonical (move_down t)
  down_canonical c i h =
      let l : i < k = omega (arith, down_shows.count) in
      row_bytes_same (row_at (move_down t) i) (moved_row (row_at t (suc i))) (down_shows.rows i l)
      ∙ moved_bytes_lem i l (c (suc i) (omega arith)) ∙ sym (down_part i l)
