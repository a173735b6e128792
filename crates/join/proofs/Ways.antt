-- The ways out of the checks, one law for each. Assumes nothing.
use mathlib.Core.Path.{◌≡◌}
use mathlib.Core.Bool.{Bool, true, false}
use mathlib.Core.Logic.{◌≢◌}
use Prim.Native.Nat.{ℕ, ◌≤◌, ◌<◌}
use native.Mathlib.Omega.{arith}
use borrow.Author.Tests.{eq-eqb, ne_eqb, le-leb, lt-leb}
use Rattle.std.specs.Prelude.{Some, None}
use Rattle.base.specs.Search.{found_below}
use Rattle.base.proofs.Search.{some_found, none_found}
use Rattle.base.specs.Bytes.{Bytes}
use Rattle.answer.specs.declared.Answer.{Answer}
use Rattle.answer.specs.Checks.{answer_to, refused, success}
use Rattle.table.specs.View.{max_places}
use Rattle.table.specs.Layout.{setup_of, count_of, view_of}
use Rattle.table.specs.Form.{in_form}
use Rattle.records.specs.Layout.{buffer_size}
use Rattle.join.specs.Join.{neither_retired, same_setup, clash_at, joined_count}
use Rattle.join.specs.Steps.{sides_checks, later_checks, tables_checks, blocks_answer}

-- ---- the two sides as a whole

module _ (left right : Bytes) (left_size right_size size : ℕ) where
  abbrev answer : Answer
  answer = answer_to (sides_checks left right left_size right_size size) 0

  abbrev later : Answer
  later = answer_to (later_checks left right left_size right_size size) 0

  pub way2 : in_form left ≡ false → refused 2 0 ≡ answer
  unfolding answer_to
  way2 n = rw n

  pub way2_right : in_form left ≡ true → in_form right ≡ false → refused 2 0 ≡ answer
  unfolding answer_to
  way2_right f n = rw (f, n)

  -- the checks behind that of form
  pub way12_left : left_size ≢ buffer_size → refused 12 0 ≡ later
  unfolding answer_to
  way12_left n = rw (ne_eqb left_size buffer_size n)

  pub way12_right : left_size ≡ buffer_size → right_size ≢ buffer_size → refused 12 0 ≡ later
  unfolding answer_to
  way12_right a n = rw (eq-eqb left_size buffer_size a, ne_eqb right_size buffer_size n)

  module _ (a : left_size ≡ buffer_size) (b : right_size ≡ buffer_size) where
    pub way12 : size ≢ buffer_size → refused 12 0 ≡ later
    unfolding answer_to
    way12 n = rw (eq-eqb left_size buffer_size a, eq-eqb right_size buffer_size b, ne_eqb size buffer_size n)

-- ---- the checks of the two tables

module _ (left right : Bytes) where
  abbrev tables : Answer
  tables = answer_to (tables_checks left right) 0

  pub way31 : neither_retired left right ≡ false → refused 31 0 ≡ tables
  unfolding answer_to
  way31 n = rw n

  module _ (u : neither_retired left right ≡ true) where
    pub way23 : same_setup (setup_of left) (setup_of right) ≡ false → refused 23 0 ≡ tables
    unfolding answer_to
    way23 n = rw (u, n)

    pub way_on : same_setup (setup_of left) (setup_of right) ≡ true → success 0 ≡ tables
    unfolding answer_to
    way_on y = rw (u, y)

-- ---- their blocks

module _ (left right : Bytes) where
  abbrev clash : ℕ → Bool
  clash = clash_at (view_of left) (view_of right)

  pub way24 : (i : ℕ) → Some i ≡ found_below clash (count_of left) → refused 24 i ≡ blocks_answer left right
  unfolding answer_to
  way24 i e = let s = some_found clash (count_of left) i e in rw (s.0, s.1)

  module _ (e : None ≡ found_below clash (count_of left)) (all : ℕ) (j : all ≡ joined_count (view_of left) (view_of right)) where
    pub way25 : max_places < all → refused 25 0 ≡ blocks_answer left right
    unfolding answer_to
    way25 l = rw (none_found clash (count_of left) e, lt-leb (joined_count (view_of left) (view_of right)) max_places (omega (arith, j)))

    pub way0 : all ≤ max_places → success all ≡ blocks_answer left right
    unfolding answer_to
    way0 l = rw (none_found clash (count_of left) e, le-leb (joined_count (view_of left) (view_of right)) max_places (omega (arith, j)), j)
