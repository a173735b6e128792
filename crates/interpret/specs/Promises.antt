-- What interpretation promises beyond its three equations; proofs/Promises.antt shows it.
use Rattle.std.specs.Prelude.{◌≡◌, true, false, ◌↔◌, ◌≢◌, List, ℕ, ◌≤◌, ◌<◌, length}
use Rattle.base.specs.Search.{First}
use Rattle.base.specs.Bytes.{Bytes}
use Rattle.table.specs.Layout.{count_of, mark_at, row_at}
use Rattle.table.specs.Form.{in_form}
use Rattle.table.specs.Promises.{Marked}
use Rattle.records.specs.Layout.{buffer_size}
use Rattle.interpret.specs.Interpretation.{interpretation, marked, recorded}

-- RecordsSized: checks 2 and 12 hold. PlaceHeld: check 13 holds too. Open: check 14 holds too
pub record RecordsSized (t : Bytes) (buffer : List ℕ) : Type 0 where
  pub formed : in_form t ≡ true
  pub size : length buffer ≡ buffer_size

pub record PlaceHeld (t : Bytes) (buffer : List ℕ) (i : ℕ) : Type 0 where
  pub records_sized : RecordsSized t buffer
  pub below : i < count_of t

pub record Open (t : Bytes) (buffer : List ℕ) (i : ℕ) : Type 0 where
  pub place_held : PlaceHeld t buffer i
  pub unmarked : mark_at t i ≢ 1

-- place j is a direct reference of place i and is not interpreted
pub record Unready (t : Bytes) (i j : ℕ) : Type 0 where
  pub lower : j < i
  pub refers : (row_at t i).refers_to j ≡ true
  pub unmarked : mark_at t j ≢ 1

-- each refusal comes under its cause and under no other
pub record Causes (t : Bytes) (buffer : List ℕ) (i : ℕ) : Type 0 where
  pub two : ((interpretation t buffer i).refusal ≡ 2) ↔ (in_form t ≡ false)
  pub twelve : ((interpretation t buffer i).refusal ≡ 12) ↔ ((in_form t ≡ true) × (length buffer ≢ buffer_size))
  pub thirteen : ((interpretation t buffer i).refusal ≡ 13) ↔ (RecordsSized t buffer × (count_of t ≤ i))
  pub fourteen : ((interpretation t buffer i).refusal ≡ 14) ↔ (PlaceHeld t buffer i × (mark_at t i ≡ 1))
  pub fifteen : ((interpretation t buffer i).refusal ≡ 15) ↔ (Open t buffer i × ((j : ℕ) × Unready t i j))
  pub none : ((interpretation t buffer i).refusal ≡ 0) ↔ (Open t buffer i × (((j : ℕ) × Unready t i j) → ⊥))
  -- "lowest such place"
  pub lowest : (interpretation t buffer i).refusal ≡ 15 → First (Unready t i) (interpretation t buffer i).value
  -- beside any number but 15 the value is 0
  pub no_value : (interpretation t buffer i).refusal ≢ 15 → (interpretation t buffer i).value ≡ 0

pub record Promises : Type 0 where
  pub causes : (t : Bytes) (buffer : List ℕ) (i : ℕ) → Causes t buffer i
  -- the place is marked, and the table has no other change
  pub shown : (t : Bytes) (buffer : List ℕ) (i : ℕ) → (interpretation t buffer i).refusal ≡ 0 → Marked t (marked t buffer i) i
  -- a table in form is in form after any interpretation, refused or not, and the buffer keeps its length
  pub kept : (t : Bytes) (buffer : List ℕ) (i : ℕ) → in_form t ≡ true → in_form (marked t buffer i) ≡ true
  pub sized : (t : Bytes) (buffer : List ℕ) (i : ℕ) → length (recorded t buffer i) ≡ length buffer
