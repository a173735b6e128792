-- What a table shows after a row was put at its next place: the same setup, one place more, the rows below as they were, the row that was put, and
-- what stands behind it as it was. So a table in form stays in form where the row that is put is in form. Assumes nothing.
use mathlib.Core.Path.{◌≡◌, sym, ap, ap₂, ◌∙◌, subst}
use mathlib.Core.Bool.{true}
use mathlib.Core.List.{[], ◌∷◌}
use Prim.Native.Nat.{ℕ, suc, ◌+◌, ◌*◌, ◌≤◌, ◌<◌}
use native.Mathlib.Numerals.{add-one}
use native.Mathlib.Omega.{arith}
use lib.ListN.{length, get_or, take, drop}
use lib.Seq.{drop-drop}
use Rattle.base.specs.Bytes.{Bytes, all_zero, splice}
use Rattle.base.proofs.Bytes.{zeros_drop}
use Rattle.base.proofs.Splice.{drop_splice, splice_low, splice_in, splice_part_low, splice_part_in, length_splice}
use Rattle.setup.specs.Setup.{slot_count}
use Rattle.block.specs.Limits.{reference_size}
use Rattle.table.specs.View.{max_places, Row, SameRow}
use Rattle.table.specs.Layout.{owners_offset, retired_offset, count_offset, rows_offset, row_size, row_start, table_size, setup_of, retired_of, count_of, row_at, view_of, row_bytes, with_row}
use Rattle.table.specs.Rules.{row_in_form}
use Rattle.table.specs.Promises.{Grown}
use Rattle.table.proofs.Views.{row_trans, form_grows}
use Rattle.table.proofs.InForm.{TableForm}
use Rattle.table.proofs.RowBytes.{row_in, row_part, row_in_lem, part_same, length_row, row_back, row_bytes_same}

module _ (t : Bytes) (r : Row) (size : length t ≡ table_size) (room : count_of t < max_places) (whole : length r.digest ≡ reference_size) where
  abbrev start : ℕ
  start = row_start (count_of t)

  abbrev next : Bytes
  next = (count_of t + 1) ∷ []

  -- with the row, before the count is set
  unfoldable placed : Bytes
  placed = splice t start (row_bytes r)

  row_fits : start + length (row_bytes r) ≤ length t
  row_fits = omega (arith, length_row r whole)

  start_within : start ≤ length t
  start_within = omega arith

  placed_size : length placed ≡ table_size
  unfolding placed
  placed_size = length_splice t start (row_bytes r) row_fits ∙ size

  count_within : count_offset ≤ length placed
  count_within = omega (arith, placed_size)

  -- the count changes nothing behind it
  behind : (n : ℕ) → drop (rows_offset + n) (with_row t r) ≡ drop (rows_offset + n) placed
  unfolding with_row placed
  behind n = drop_splice placed count_offset next count_within n

  -- nor before it
  sites_kept : get_or (with_row t r) 0 0 ≡ get_or t 0 0
  unfolding with_row placed
  sites_kept = splice_low placed count_offset next count_within 0 (omega arith) ∙ splice_low t start (row_bytes r) start_within 0 (omega arith)

  owners_kept : take slot_count (drop owners_offset (with_row t r)) ≡ take slot_count (drop owners_offset t)
  unfolding with_row placed
  owners_kept =
      splice_part_low placed count_offset next count_within owners_offset slot_count (omega arith)
      ∙ splice_part_low t start (row_bytes r) start_within owners_offset slot_count (omega arith)

  retired_kept : retired_of (with_row t r) ≡ retired_of t
  unfolding with_row placed
  retired_kept =
      splice_low placed count_offset next count_within retired_offset (omega arith) ∙ splice_low t start (row_bytes r) start_within retired_offset (omega arith)

  counted : count_of (with_row t r) ≡ suc (count_of t)
  unfolding with_row placed
  counted = splice_in placed count_offset next count_within 0 (omega arith) ∙ add-one (count_of t)

  pub part_kept : (i : ℕ) → i < count_of t → row_part t i ≡ row_part (with_row t r) i
  unfolding placed
  part_kept i h =
      sym (ap (take row_size) (behind (row_size * i)) ∙ splice_part_low t start (row_bytes r) start_within (row_start i) row_size (omega arith))

  pub part_here : row_part (with_row t r) (count_of t) ≡ row_bytes r
  unfolding placed
  part_here =
      ap (take row_size) (behind (row_size * count_of t)) ∙ ap (λ (n : ℕ). take n (drop start placed)) (sym (length_row r whole))
      ∙ splice_part_in t start (row_bytes r) start_within

  row_here : SameRow (row_at (with_row t r) (count_of t)) r
  row_here =
      row_trans (row_at (with_row t r) (count_of t)) (row_in (row_part (with_row t r) (count_of t))) r (row_in_lem (with_row t r) (count_of t))
      (subst (λ (b : Bytes). SameRow (row_in b) r) (sym part_here) (row_back r whole))

  rest_kept : drop (row_start (suc (count_of t))) (with_row t r) ≡ drop (row_start (suc (count_of t))) t
  unfolding placed
  rest_kept =
      let e : row_start (suc (count_of t)) ≡ start + length (row_bytes r) + 0 = omega (arith, length_row r whole) in
      behind (row_size * suc (count_of t)) ∙ ap (λ (n : ℕ). drop n placed) e ∙ drop_splice t start (row_bytes r) start_within 0 ∙ ap (λ (n : ℕ). drop n t) (sym e)

  pub grown : Grown t (with_row t r) r
  unfolding with_row placed
  grown =
      record {
        size = length_splice placed count_offset next (omega (arith, placed_size)) ∙ placed_size;
        setup = ap₂ (λ (x : ℕ) (y : Bytes). record { sites = x; owners = y }) sites_kept owners_kept;
        retired = retired_kept;
        count = counted;
        below = λ i h. part_same t (with_row t r) i (part_kept i h);
        here = row_here;
        rest = rest_kept;
      }

-- rows that show the same are put the same
pub put_same : (t : Bytes) (r q : Row) → SameRow r q → with_row t r ≡ with_row t q
unfolding with_row
put_same t r q e = ap (λ (b : Bytes). splice (splice t (row_start (count_of t)) b) count_offset ((count_of t + 1) ∷ [])) (row_bytes_same r q e)

-- one row more in form
pub grown_formed : (t t' : Bytes) (r : Row) → TableForm t → count_of t < max_places → Grown t t' r → row_in_form (setup_of t) (view_of t') (count_of t) ≡ true → TableForm t'
grown_formed t t' r f room g e =
    record {
      size = g.size;
      held = rw g.setup (form_grows (setup_of t) (view_of t) (view_of t') f.held (sym g.retired) g.count room g.below e);
      zeros = ap (λ (n : ℕ). all_zero (drop (row_start n) t')) g.count ∙ ap all_zero (g.rest ∙ later) ∙ zeros_drop row_size (drop (row_start (count_of t)) t) f.zeros;
    }
  where
    later : drop (row_start (suc (count_of t))) t ≡ drop row_size (drop (row_start (count_of t)) t)
    later =
        let n : row_start (suc (count_of t)) ≡ row_start (count_of t) + row_size = omega arith in
        ap (λ (k : ℕ). drop k t) n ∙ sym (drop-drop row_size (row_start (count_of t)) t)
