-- What the contracts of inner functions cite: what an entry point has tested, and where blocks stand. Nothing here need be believed.
use Rattle.std.specs.Prelude.{◌≡◌, Bool, true, false, not, cond, ◌&&◌, List, ℕ, zero, suc, ◌≤◌, ◌<◌, eqb, length, get_or, take, drop}
use Rattle.base.specs.Search.{any_below}
use Rattle.base.specs.Mask.{mask_below, in_mask}
use Rattle.base.specs.Bytes.{Bytes, splice}
use Rattle.answer.specs.declared.Answer.{Answer}
use Rattle.answer.specs.Checks.{Check, answer_to}
use Rattle.table.specs.View.{max_places}
use Rattle.table.specs.Layout.{setup_of, retired_of, count_of, digest_at, view_of}
use Rattle.records.specs.Layout.{buffer_size, part_start}
use Rattle.join.specs.Join.{clash_at, is_extra, joined_count, join_checks, join_below, joined_table, place_in, handed_back, joined_records}
use Rattle.join.specs.Promises.{BothFormed, place_behind}

-- ---- the checks in two parts: 2, 12, 31 and 23; then 24 and 25, which read the tables alone

abbrev pub sides_checks : Bytes → Bytes → ℕ → ℕ → ℕ → List Check
sides_checks left right left_size right_size size = take 4 (join_checks left right left_size right_size size)

-- those of them that are behind the check of form
abbrev pub later_checks : Bytes → Bytes → ℕ → ℕ → ℕ → List Check
later_checks left right left_size right_size size = drop 1 (sides_checks left right left_size right_size size)

-- those of them that read the tables alone: 31 and 23
abbrev pub tables_checks : Bytes → Bytes → List Check
tables_checks left right = drop 1 (later_checks left right 0 0 0)

abbrev pub blocks_checks : Bytes → Bytes → List Check
blocks_checks left right = drop 4 (join_checks left right 0 0 0)

abbrev pub blocks_answer : Bytes → Bytes → Answer
blocks_answer left right = answer_to (blocks_checks left right) (joined_count (view_of left) (view_of right))

-- what checks 24 and 25 leave of the left's table and of the third buffer
abbrev pub blocks_table : Bytes → Bytes → Bytes
blocks_table left right = cond (eqb (blocks_answer left right).refusal 0) (joined_table left right) left

abbrev pub blocks_records : Bytes → Bytes → List ℕ → List ℕ → List ℕ → List ℕ
blocks_records left right left_records right_records third =
    cond (eqb (blocks_answer left right).refusal 0) (joined_records left right left_records right_records third) third

-- ---- what the checks have shown

-- checks 2, 31 and 23, those of the two tables that read no single block, hold
pub record SameSetup (left right : Bytes) : Type 0 where
  pub formed : BothFormed left right
  pub left_retired : retired_of left ≡ 0
  pub right_retired : retired_of right ≡ 0
  pub setup : setup_of left ≡ setup_of right

-- checks 2, 31, 23, 24 and 25, those of the two tables, hold
pub record Joinable (left right : Bytes) : Type 0 where
  pub formed : BothFormed left right
  pub left_retired : retired_of left ≡ 0
  pub right_retired : retired_of right ≡ 0
  pub setup : setup_of left ≡ setup_of right
  pub apart : any_below (clash_at (view_of left) (view_of right)) (count_of left) ≡ false
  pub fits : joined_count (view_of left) (view_of right) ≤ max_places

-- all checks hold
pub record JoinableSides (left right : Bytes) (left_records right_records third : List ℕ) : Type 0 where
  pub joinable : Joinable left right
  pub left_size : length left_records ≡ buffer_size
  pub right_size : length right_records ≡ buffer_size
  pub size : length third ≡ buffer_size

-- ---- where blocks stand, as a list of places

-- the list `places` has, for each place of `other`, the place in the table that holds the same block, or the table's count
pub record PlacesFound (table other : Bytes) (places : List ℕ) : Type 0 where
  pub at : (k : ℕ) → k < count_of other → get_or places k 0 ≡ place_in (view_of table) (digest_at other k)

-- the place in the result of the block at the right's place j
abbrev pub result_place : Bytes → Bytes → ℕ → ℕ
result_place left right j = cond (is_extra (view_of left) (view_of right) j) (place_behind left right j) (place_in (view_of left) (digest_at right j))

-- the list `places` has, for each place of the right, the place of its block in the result
pub record Numbered (left right : Bytes) (places : List ℕ) : Type 0 where
  pub at : (j : ℕ) → j < count_of right → get_or places j 0 ≡ result_place left right j

-- the blocks of these references, whose places in the other table the list tells, all stand at places of the mask
abbrev pub within_by : ℕ → List ℕ → ℕ → Bool
within_by references places mask = not (any_below (λ k. in_mask references k && not (in_mask mask (get_or places k 0))) max_places)

-- the blocks of these references all have a place in the list
pub record EachPlaced (references : ℕ) (places : List ℕ) : Type 0 where
  pub below : (k : ℕ) → k < max_places → in_mask references k ≡ true → get_or places k 0 < max_places

-- the mask of the places that the list tells for the blocks of these references
abbrev pub renumbered_by : ℕ → List ℕ → ℕ
renumbered_by references places = mask_below (λ p. any_below (λ k. in_mask references k && eqb (get_or places k 0) p) max_places) max_places

-- ---- steps

-- t is the left's table after the right's places below j, and place j is the next
pub record Next (t right : Bytes) (j : ℕ) (places : List ℕ) : Type 0 where
  pub left : Bytes
  pub joinable : Joinable left right
  pub numbered : Numbered left right places
  pub below : j < count_of right
  pub is : t ≡ join_below left (view_of right) j

-- the parts of the right's blocks below k that are not in the left, copied to the places behind the left's
unfoldable pub extras_below : Bytes → Bytes → List ℕ → List ℕ → List ℕ → ℕ → List ℕ
extras_below left right left_records right_records third zero = third
extras_below left right left_records right_records third (suc k) =
    cond (is_extra (view_of left) (view_of right) k)
    (splice (extras_below left right left_records right_records third k) (part_start (place_behind left right k))
    (handed_back (view_of left) (view_of right) left_records right_records (count_of left) k))
    (extras_below left right left_records right_records third k)
