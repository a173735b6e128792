-- What the table promises beyond the contracts of its functions; proofs/Promises.antt shows it.
use Rattle.std.specs.Prelude.{◌≡◌, true, false, ◌↔◌, ◌≢◌, ℕ, suc, ◌≤◌, ◌<◌, eqb, length, drop, replicate}
use Rattle.base.specs.Bytes.{Bytes, AllBytes, all_zero}
use Rattle.setup.specs.Setup.{Setup, lawful}
use Rattle.block.specs.Limits.{reference_size}
use Rattle.table.specs.View.{max_places, Row, SameRow, marked_if, View, SameBelow}
use Rattle.table.specs.Layout.{row_start, table_size, setup_of, retired_of, count_of, row_at, view_of, layout, with_row, with_mark}
use Rattle.table.specs.Form.{in_form}
use Rattle.table.specs.Fresh.{empty_table, fresh_table, fresh_answer, fresh_in}

-- t' is t with the row r at the next place, and nothing else changed
pub record Grown (t t' : Bytes) (r : Row) : Type 0 where
  pub size : length t' ≡ table_size
  pub setup : setup_of t' ≡ setup_of t
  pub retired : retired_of t' ≡ retired_of t
  pub count : count_of t' ≡ suc (count_of t)
  pub below : SameBelow (view_of t) (view_of t') (count_of t)
  pub here : SameRow (row_at t' (count_of t)) r
  pub rest : drop (row_start (suc (count_of t))) t' ≡ drop (row_start (suc (count_of t))) t

-- t' is t with place i interpreted, and nothing else changed
pub record Marked (t t' : Bytes) (i : ℕ) : Type 0 where
  pub size : length t' ≡ table_size
  pub setup : setup_of t' ≡ setup_of t
  pub retired : retired_of t' ≡ retired_of t
  pub count : count_of t' ≡ count_of t
  pub rows : (j : ℕ) → SameRow (row_at t' j) (marked_if (eqb j i) (row_at t j))
  pub rest : (n : ℕ) → row_start (suc i) ≤ n → drop n t' ≡ drop n t

-- a table in form that shows this setup and no block
pub record Empty (s : Setup) (t : Bytes) : Type 0 where
  pub formed : in_form t ≡ true
  pub setup : setup_of t ≡ s
  pub retired : retired_of t ≡ 0
  pub count : count_of t ≡ 0

-- t shows this setup and this view, and zeros behind the last row of the view
pub record Shows (s : Setup) (v : View) (t : Bytes) : Type 0 where
  pub size : length t ≡ table_size
  pub setup : setup_of t ≡ s
  pub retired : retired_of t ≡ v.retired
  pub count : count_of t ≡ v.held
  pub rows : SameBelow (view_of t) v v.held
  pub zeros : all_zero (drop (row_start v.held) t) ≡ true

-- what `fresh` answers for a setup
pub record FreshCauses (s : Setup) : Type 0 where
  -- 1 comes under its cause and under no other
  pub one : ((fresh_table s).refusal ≡ 1) ↔ (lawful s ≡ false)
  pub none : ((fresh_table s).refusal ≡ 0) ↔ (lawful s ≡ true)
  -- "the table handed back is all zero"
  pub zeros : (fresh_table s).refusal ≡ 1 → (fresh_table s).table ≡ replicate table_size 0
  pub shown : (fresh_table s).refusal ≡ 0 → Empty s (fresh_table s).table

-- what `fresh_in` answers for a setup and a lent buffer, and what it leaves
pub record FreshInCauses (s : Setup) (t : Bytes) : Type 0 where
  pub one : ((fresh_answer s t).refusal ≡ 1) ↔ (lawful s ≡ false)
  pub two : ((fresh_answer s t).refusal ≡ 2) ↔ ((lawful s ≡ true) × (length t ≢ table_size))
  pub none : ((fresh_answer s t).refusal ≡ 0) ↔ ((lawful s ≡ true) × (length t ≡ table_size))
  pub no_value : (fresh_answer s t).value ≡ 0
  -- a refusal leaves the buffer as it was
  pub refused : (fresh_answer s t).refusal ≢ 0 → fresh_in s t ≡ t
  pub shown : (fresh_answer s t).refusal ≡ 0 → Empty s (fresh_in s t)

pub record Promises : Type 0 where
  pub fresh : (s : Setup) → FreshCauses s
  pub fresh_in : (s : Setup) (t : Bytes) → FreshInCauses s t
  -- a table in form is the layout of its own contents: none of its bytes is left to choose
  pub laid : (t : Bytes) → AllBytes t → in_form t ≡ true → t ≡ layout (setup_of t) (view_of t)
  -- the empty table of a lawful setup is in form, shows that setup, and holds no block
  pub empty : (s : Setup) → lawful s ≡ true → Empty s (empty_table s)
  -- a row that is put at the next place is read back as it was put, and nothing else has changed
  pub grown : (t : Bytes) (r : Row) → length t ≡ table_size → count_of t < max_places → length r.digest ≡ reference_size → Grown t (with_row t r) r
  -- a mark that is set at a place is read back, and nothing else has changed
  pub marked : (t : Bytes) (i : ℕ) → length t ≡ table_size → i < max_places → Marked t (with_mark t i) i
