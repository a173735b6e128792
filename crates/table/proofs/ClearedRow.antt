-- A table without its last row: it shows the view without its last place, and its rows stand as their bytes where they did before. A row that is put
-- at the next place and cleared leaves the table as it was, all bytes. Assumes nothing.
use mathlib.Core.Path.{◌≡◌, refl, sym, ap, ap₂, ◌∙◌}
use mathlib.Core.Bool.{true}
use mathlib.Core.List.{[], ◌∷◌, ◌++◌}
use Prim.Native.Nat.{suc, ℕ, ◌+◌, ◌-◌, ◌*◌, ◌≤◌, ◌<◌}
use native.Mathlib.Omega.{arith}
use lib.ListN.{length, get_or, take, drop, replicate, length-replicate, length-drop}
use lib.Seq.{drop_at, drop-cons, length-take-le}
use Rattle.base.specs.Bytes.{Bytes, all_zero, splice}
use Rattle.base.proofs.Bytes.{zeros_append, replicate_zeros, zeros_take}
use Rattle.base.proofs.Splice.{drop_splice, splice_low, splice_in, splice_part_low, length_splice, splice_own, splice_over, splice_apart}
use Rattle.setup.specs.Setup.{slot_count}
use Rattle.block.specs.Limits.{reference_size}
use Rattle.table.specs.View.{max_places, Row}
use Rattle.table.specs.Layout.{owners_offset, retired_offset, count_offset, rows_offset, row_size, row_start, table_size, setup_of, count_of, row_at, view_of, row_bytes, with_row}
use Rattle.table.specs.Writing.{without_last, without_row}
use Rattle.table.specs.Promises.{Shows}
use Rattle.table.proofs.RowBytes.{row_part, part_same, length_row, row_bytes_same}
use Rattle.table.proofs.AddedRow.{grown}
use Rattle.table.proofs.Canonical.{Canonical}

abbrev none : Bytes
none = replicate row_size 0

none_length : length none ≡ row_size
none_length = length-replicate {A = ℕ} row_size 0

module _ (t : Bytes) (size : length t ≡ table_size) (some : 0 < count_of t) (few : count_of t ≤ max_places) (zeros : all_zero (drop (row_start (count_of t)) t) ≡ true) where
  abbrev last : ℕ
  last = count_of t - 1

  -- with zeros at the last place, before the count is set
  unfoldable cleared : Bytes
  cleared = splice t (row_start last) none

  within : row_start last ≤ length t
  within = omega arith

  cleared_size : length cleared ≡ table_size
  unfolding cleared
  cleared_size = length_splice t (row_start last) none (omega (arith, none_length)) ∙ size

  count_within : count_offset ≤ length cleared
  count_within = omega (arith, cleared_size)

  -- the count changes nothing behind it
  behind : (n : ℕ) → drop (rows_offset + n) (without_row t) ≡ drop (rows_offset + n) cleared
  unfolding without_row cleared
  behind n = drop_splice cleared count_offset (last ∷ []) count_within n

  -- nor before it
  low : (i : ℕ) → i < count_offset → get_or (without_row t) i 0 ≡ get_or t i 0
  unfolding without_row cleared
  low i h = splice_low cleared count_offset (last ∷ []) count_within i h ∙ splice_low t (row_start last) none within i (omega arith)

  owners_kept : take slot_count (drop owners_offset (without_row t)) ≡ take slot_count (drop owners_offset t)
  unfolding without_row cleared
  owners_kept =
      splice_part_low cleared count_offset (last ∷ []) count_within owners_offset slot_count (omega arith)
      ∙ splice_part_low t (row_start last) none within owners_offset slot_count (omega arith)

  counted : count_of (without_row t) ≡ last
  unfolding without_row cleared
  counted = splice_in cleared count_offset (last ∷ []) count_within 0 (omega arith)

  part_kept : (i : ℕ) → i < last → row_part (without_row t) i ≡ row_part t i
  unfolding cleared
  part_kept i h = ap (take row_size) (behind (row_size * i)) ∙ splice_part_low t (row_start last) none within (row_start i) row_size (omega arith)

  zeros_there : all_zero (drop (row_start last) (without_row t)) ≡ true
  unfolding cleared splice
  zeros_there =
      let n : row_start last + length none ≡ row_start (count_of t) = omega (arith, none_length) in
      ap all_zero (behind (row_size * last) ∙ drop_at (take (row_start last) t) (none ++ drop (row_start last + length none) t) (row_start last) (length-take-le (row_start last) t within))
      ∙ zeros_append none (drop (row_start last + length none) t) (replicate_zeros row_size) (ap (λ (m : ℕ). all_zero (drop m t)) n ∙ zeros)

  pub left_shows : Shows (setup_of t) (without_last (view_of t)) (without_row t)
  unfolding without_row cleared
  left_shows =
      record {
        size = length_splice cleared count_offset (last ∷ []) (omega (arith, cleared_size)) ∙ cleared_size;
        setup = ap₂ (λ (x : ℕ) (y : Bytes). record { sites = x; owners = y }) (low 0 (omega arith)) owners_kept;
        retired = low retired_offset (omega arith);
        count = counted;
        rows = λ i h. part_same (without_row t) t i (part_kept i h);
        zeros = zeros_there;
      }

  pub left_canonical : Canonical t → Canonical (without_row t)
  left_canonical c i h =
      let l : i < last = omega (arith, counted) in
      row_bytes_same (row_at (without_row t) i) (row_at t i) (left_shows.rows i l) ∙ c i (omega arith) ∙ sym (part_kept i l)

-- ---- after a row was put: zeros come over the row, and the old count over the new one

module _ (t : Bytes) (r : Row) (size : length t ≡ table_size) (room : count_of t < max_places) (whole : length r.digest ≡ reference_size)
    (zeros : all_zero (drop (row_start (count_of t)) t) ≡ true) where
  abbrev count : ℕ
  count = count_of t

  abbrev start : ℕ
  start = row_start count

  -- zeros stood there before, and this count
  none_there : take (length none) (drop start t) ≡ none
  none_there = ap (λ (n : ℕ). take n (drop start t)) none_length ∙ zeros_take row_size (drop start t) (omega (arith, length-drop start t)) zeros

  count_there : take 1 (drop count_offset t) ≡ count ∷ []
  count_there = ap (take 1) (drop-cons t count_offset 0 (omega arith))

  row_over : splice (splice t start (row_bytes r)) start none ≡ t
  row_over = splice_over t start (row_bytes r) none (omega arith) (none_length ∙ sym (length_row r whole)) ∙ splice_own t start none none_there

  count_over : splice (splice t count_offset ((count + 1) ∷ [])) count_offset (count ∷ []) ≡ t
  count_over = splice_over t count_offset ((count + 1) ∷ []) (count ∷ []) (omega arith) refl ∙ splice_own t count_offset (count ∷ []) count_there

  pub row_undone : without_row (with_row t r) ≡ t
  unfolding without_row with_row
  row_undone =
      let n : count_of (with_row t r) - 1 ≡ count = omega (arith, (grown t r size room whole).count) in
      let placed : length (splice t start (row_bytes r)) ≡ length t = length_splice t start (row_bytes r) (omega (arith, length_row r whole)) in
      ap (λ (m : ℕ). splice (splice (with_row t r) (row_start m) none) count_offset (m ∷ [])) n
      ∙ ap (λ (x : Bytes). splice x count_offset (count ∷ []))
      (splice_apart (splice t start (row_bytes r)) count_offset ((count + 1) ∷ []) start none (omega arith) (omega arith)
      ∙ ap (λ (x : Bytes). splice x count_offset ((count + 1) ∷ [])) row_over)
      ∙ count_over

-- ---- the code's steps: zeros, then the count

pub cleared_is : (t : Bytes) (last : ℕ) → count_of t ≡ suc last → (t₁ t₂ : Bytes) → t₁ ≡ splice t (row_start last) none
    → t₂ ≡ splice t₁ count_offset (last ∷ []) → t₂ ≡ without_row t
unfolding without_row
cleared_is t last l t₁ t₂ e f =
    let k : last ≡ count_of t - 1 = omega (arith, l) in
    f ∙ ap (λ (x : Bytes). splice x count_offset (last ∷ [])) e ∙ ap (λ (m : ℕ). splice (splice t (row_start m) none) count_offset (m ∷ [])) k
