-- What retiring promises beyond its three equations; proofs/Promises.antt shows it.
use Rattle.std.specs.Prelude.{◌≡◌, true, false, ◌↔◌, ◌≢◌, List, ℕ, ◌<◌, length}
use Rattle.base.specs.Bytes.{Bytes}
use Rattle.table.specs.Layout.{setup_of, count_of, site_at, sequence_at, mark_at, row_at, view_of}
use Rattle.table.specs.Writing.{without_first}
use Rattle.table.specs.Form.{in_form}
use Rattle.table.specs.Promises.{Shows}
use Rattle.records.specs.Layout.{buffer_size}
use Rattle.records.specs.Moving.{Moved}
use Rattle.interpret.specs.Promises.{RecordsSized, PlaceHeld}
use Rattle.retire.specs.Retiring.{retiring, retired_table, retired_records}

-- ---- refusals

-- place i holds an interpreted block of place 0's site, of greater sequence number
pub record Follows (t : Bytes) (i : ℕ) : Type 0 where
  pub below : i < count_of t
  pub site : site_at t i ≡ site_at t 0
  pub marked : mark_at t i ≡ 1
  pub greater : sequence_at t 0 < sequence_at t i

-- "It may be retired if it is interpreted, every held block referring to it is interpreted, and its site has a held, interpreted block of
-- greater sequence number"
pub record Retirable (t : Bytes) : Type 0 where
  pub marked : mark_at t 0 ≡ 1
  pub referrers : (i : ℕ) → i < count_of t → (row_at t i).refers_to 0 ≡ true → mark_at t i ≡ 1
  pub follower : (i : ℕ) × Follows t i

-- each refusal comes under its cause and under no other
pub record Causes (t : Bytes) (buffer : List ℕ) : Type 0 where
  pub two : ((retiring t buffer).refusal ≡ 2) ↔ (in_form t ≡ false)
  pub twelve : ((retiring t buffer).refusal ≡ 12) ↔ ((in_form t ≡ true) × (length buffer ≢ buffer_size))
  pub thirteen : ((retiring t buffer).refusal ≡ 13) ↔ (RecordsSized t buffer × (count_of t ≡ 0))
  pub twenty_nine : ((retiring t buffer).refusal ≡ 29) ↔ (PlaceHeld t buffer 0 × (Retirable t → ⊥))
  pub none : ((retiring t buffer).refusal ≡ 0) ↔ (PlaceHeld t buffer 0 × Retirable t)
  pub no_value : (retiring t buffer).value ≡ 0

-- ---- what is left

pub record Promises : Type 0 where
  pub causes : (t : Bytes) (buffer : List ℕ) → Causes t buffer
  -- a refusal changes nothing
  pub refused : (t : Bytes) (buffer : List ℕ) → (retiring t buffer).refusal ≢ 0 → (retired_table t buffer ≡ t) × (retired_records t buffer ≡ buffer)
  -- the table shows all places but place 0, each one place lower, and the parts of the records move with their places
  pub shown : (t : Bytes) (buffer : List ℕ) → (retiring t buffer).refusal ≡ 0 → Shows (setup_of t) (without_first (view_of t)) (retired_table t buffer)
  pub parts : (t : Bytes) (buffer : List ℕ) → (retiring t buffer).refusal ≡ 0 → Moved buffer (retired_records t buffer) (count_of t)
  -- a table in form is in form after any retiring, refused or not, and the buffer keeps its length
  pub kept : (t : Bytes) (buffer : List ℕ) → in_form t ≡ true → in_form (retired_table t buffer) ≡ true
  pub sized : (t : Bytes) (buffer : List ℕ) → length (retired_records t buffer) ≡ length buffer
  -- a campaign can go on: where every place is interpreted, and the site of place 0 has a held block of greater sequence number, place 0 is retired
  pub goes_on : (t : Bytes) (buffer : List ℕ) → RecordsSized t buffer → ((i : ℕ) → i < count_of t → mark_at t i ≡ 1)
      → (i : ℕ) → i < count_of t → site_at t i ≡ site_at t 0 → sequence_at t 0 < sequence_at t i → (retiring t buffer).refusal ≡ 0
