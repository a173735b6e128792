-- What joining promises of any two tables, beyond its equations; proofs/Promises.antt shows it. What it promises of sites that calls reached
-- stands in the crate `joined`.
use Rattle.std.specs.Prelude.{◌≡◌, true, false, ◌||◌, ◌≢◌, ◌⊎◌, ◌↔◌, List, ℕ, ◌+◌, ◌≤◌, ◌<◌, length}
use Rattle.base.specs.Search.{First}
use Rattle.base.specs.Count.{count_below}
use Rattle.base.specs.Bytes.{Bytes}
use Rattle.answer.specs.declared.Answer.{Answer}
use Rattle.setup.specs.Setup.{slot_count}
use Rattle.table.specs.View.{max_places, interpreted}
use Rattle.table.specs.Layout.{setup_of, retired_of, count_of, digest_at, site_at, sequence_at, counted_request_at, row_at, view_of}
use Rattle.table.specs.Form.{in_form}
use Rattle.records.specs.Layout.{buffer_size, part_of}
use Rattle.join.specs.Join.{refers_by, same_block, is_extra, joined_count, join_answer, place_in, interpreted_at, part_for, joined, copied}

-- ---- refusals

-- check 2 holds
pub record BothFormed (left right : Bytes) : Type 0 where
  pub left_formed : in_form left ≡ true
  pub right_formed : in_form right ≡ true

-- checks 2 and 12 hold
pub record BuffersSized (left right : Bytes) (left_records right_records third : List ℕ) : Type 0 where
  pub left_formed : in_form left ≡ true
  pub right_formed : in_form right ≡ true
  pub left_size : length left_records ≡ buffer_size
  pub right_size : length right_records ≡ buffer_size
  pub size : length third ≡ buffer_size

-- checks 2, 12 and 31 hold
pub record Unretired (left right : Bytes) (left_records right_records third : List ℕ) : Type 0 where
  pub buffers_sized : BuffersSized left right left_records right_records third
  pub left_retired : retired_of left ≡ 0
  pub right_retired : retired_of right ≡ 0

-- checks 2, 12, 31 and 23 hold
pub record OneSetup (left right : Bytes) (left_records right_records third : List ℕ) : Type 0 where
  pub unretired : Unretired left right left_records right_records third
  pub setup : setup_of left ≡ setup_of right

-- the left's place i and some place of the right have equal digests, but different fields or references
pub record Clash (left right : Bytes) (i : ℕ) : Type 0 where
  pub below : i < count_of left
  pub other : ℕ
  pub other_below : other < count_of right
  pub digest : digest_at right other ≡ digest_at left i
  pub differ : same_block (view_of left) i (view_of right) other ≡ false

-- checks 2, 12, 31, 23 and 24 hold
pub record Apart (left right : Bytes) (left_records right_records third : List ℕ) : Type 0 where
  pub one : OneSetup left right left_records right_records third
  pub none : ((i : ℕ) × Clash left right i) → ⊥

-- each refusal comes under its cause and under no other
pub record Causes (left right : Bytes) (left_records right_records third : List ℕ) (answer : Answer) : Type 0 where
  -- 2: either table not in form
  pub two : (answer.refusal ≡ 2) ↔ ((in_form left ≡ false) ⊎ (in_form right ≡ false))
  -- 12: one of the three record buffers of another length
  pub twelve : (answer.refusal ≡ 12)
      ↔ (BothFormed left right × ((length left_records ≢ buffer_size) ⊎ ((length right_records ≢ buffer_size) ⊎ (length third ≢ buffer_size))))
  -- 31: either table has retired something
  pub thirty_one : (answer.refusal ≡ 31) ↔ (BuffersSized left right left_records right_records third × ((retired_of left ≢ 0) ⊎ (retired_of right ≢ 0)))
  pub twenty_three : (answer.refusal ≡ 23) ↔ (Unretired left right left_records right_records third × (setup_of left ≢ setup_of right))
  pub twenty_four : (answer.refusal ≡ 24) ↔ (OneSetup left right left_records right_records third × ((i : ℕ) × Clash left right i))
  pub twenty_five : (answer.refusal ≡ 25) ↔ (Apart left right left_records right_records third × (max_places < joined_count (view_of left) (view_of right)))
  pub none : (answer.refusal ≡ 0) ↔ (Apart left right left_records right_records third × (joined_count (view_of left) (view_of right) ≤ max_places))
  -- "with the lowest left place"
  pub lowest : answer.refusal ≡ 24 → First (Clash left right) answer.value
  -- beside a refusal other than 24 the value is 0
  pub no_value : answer.refusal ≢ 0 → answer.refusal ≢ 24 → answer.value ≡ 0

-- ---- the result, told without the order in which it is made

-- place p of t has the fields of place q of u, references and interpreted aside
pub record SameFields (t : Bytes) (p : ℕ) (u : Bytes) (q : ℕ) : Type 0 where
  pub digest : digest_at t p ≡ digest_at u q
  pub site : site_at t p ≡ site_at u q
  pub sequence : sequence_at t p ≡ sequence_at u q
  pub request : (slot : ℕ) → slot < slot_count → counted_request_at t p slot ≡ counted_request_at u q slot

-- where the block at the right's place j stands in the result, if it is not in the left
abbrev pub place_behind : Bytes → Bytes → ℕ → ℕ
place_behind left right j = count_of left + count_below (is_extra (view_of left) (view_of right)) j

-- the table t is the result of joining two tables
pub record Shape (left right t : Bytes) : Type 0 where
  pub setup : setup_of t ≡ setup_of left
  pub retired : retired_of t ≡ 0
  pub count : count_of t ≡ joined_count (view_of left) (view_of right)
  -- "the left's places first"
  pub first : (p : ℕ) → p < count_of left → SameFields t p left p
  pub first_refers : (p q : ℕ) → p < count_of left → q < max_places → (row_at t p).refers_to q ≡ (row_at left p).refers_to q
  -- "then the right's blocks not in the left, in their order"
  pub behind : (j : ℕ) → j < count_of right → is_extra (view_of left) (view_of right) j ≡ true → SameFields t (place_behind left right j) right j
  -- "references renumbered": such a block of the right refers to a place of the result exactly if it refers, in the right, to the block that stands
  -- at that place
  pub behind_refers : (j q : ℕ) → j < count_of right → is_extra (view_of left) (view_of right) j ≡ true → q < count_of t
      → (row_at t (place_behind left right j)).refers_to q ≡ refers_by (view_of right) j (digest_at t q)
  -- "A block interpreted in either is interpreted in the result", and no other is
  pub marks : (p : ℕ) → p < count_of t → interpreted (row_at t p)
      ≡ (interpreted_at (view_of left) (place_in (view_of left) (digest_at t p)) || interpreted_at (view_of right) (place_in (view_of right) (digest_at t p)))

-- b is the third buffer after joining, and t the joined table
pub record Copies (left right : Bytes) (left_records right_records third : List ℕ) (t : Bytes) (b : List ℕ) : Type 0 where
  pub size : length b ≡ length third
  -- an interpreted place has the part that was handed back for its block
  pub handed : (p : ℕ) → p < count_of t → interpreted (row_at t p) ≡ true
      → part_of b p ≡ part_for (view_of left) (view_of right) left_records right_records (digest_at t p)
  -- "whose rest stays": the part of a place stays that is not interpreted, or where no block is held
  pub rest : (p : ℕ) → p < max_places → (p < count_of t → interpreted (row_at t p) ≡ false) → part_of b p ≡ part_of third p

-- ---- a call

pub record Joins (left right : Bytes) (left_records right_records third : List ℕ) (answer : Answer) (t : Bytes) (b : List ℕ) : Type 0 where
  pub causes : Causes left right left_records right_records third answer
  -- a refusal changes nothing
  pub refused : answer.refusal ≢ 0 → (t ≡ left) × (b ≡ third)
  -- where the left's table is in form, so is the table after the call, refused or not
  pub kept : in_form left ≡ true → in_form t ≡ true
  -- a success tells how many blocks the result has
  pub counted : answer.refusal ≡ 0 → answer.value ≡ count_of t
  pub shape : answer.refusal ≡ 0 → Shape left right t
  pub copies : answer.refusal ≡ 0 → Copies left right left_records right_records third t b

abbrev pub Promises : Type 0
Promises =
    (left right : Bytes) (left_records right_records third : List ℕ)
    → Joins left right left_records right_records third (join_answer left right left_records right_records third)
    (joined left right left_records right_records third) (copied left right left_records right_records third)
