-- Request Eight: "From two tables and their records make one". What joining answers, and what it leaves. Of two views, v is the left's and w the
-- right's, unless a comment says more.
use Rattle.std.specs.Prelude.{Bool, cond, not, ◌&&◌, ◌||◌, List, [], ◌∷◌, ℕ, zero, suc, ◌+◌, eqb, leb, ltb, length}
use Rattle.base.specs.Search.{any_below, all_below}
use Rattle.base.specs.Count.{count_below}
use Rattle.base.specs.Bytes.{Bytes, same_bytes, splice}
use Rattle.answer.specs.declared.Answer.{Answer}
use Rattle.answer.specs.Checks.{Check, check, check_none, answer_to}
use Rattle.setup.specs.Setup.{Setup, slot_count}
use Rattle.table.specs.View.{max_places, Row, interpreted, View}
use Rattle.table.specs.Layout.{setup_of, retired_of, count_of, digest_at, view_of, with_row, with_mark}
use Rattle.table.specs.Rules.{has_digest, place_of}
use Rattle.table.specs.Form.{in_form}
use Rattle.records.specs.Layout.{buffer_size, part_start, part_of}

-- the place of v that holds the block of this digest, or the count of v
abbrev pub place_in : View → Bytes → ℕ
place_in v d = place_of v v.held d

-- ---- the checks

-- 31: "a table that has retired something, when joining". The check holds if neither table has
abbrev pub neither_retired : Bytes → Bytes → Bool
neither_retired left right = eqb (retired_of left) 0 && eqb (retired_of right) 0

-- 23: "setups differ"
abbrev pub same_setup : Setup → Setup → Bool
same_setup s z = eqb s.sites z.sites && same_bytes s.owners z.owners

-- place i of v refers to the block of this digest
abbrev pub refers_by : View → ℕ → Bytes → Bool
refers_by v i d = any_below (λ k. (v.row i).refers_to k && has_digest v d k) v.held

-- place j of w refers to every block that place i of v refers to
abbrev pub refers_within : View → ℕ → View → ℕ → Bool
refers_within v i w j = all_below (λ k. not ((v.row i).refers_to k) || refers_by w j (v.row k).digest) v.held

-- place i of v and place j of w have the same fields, interpreted aside, and refer to the same blocks; the blocks may stand at other places
unfoldable pub same_block : View → ℕ → View → ℕ → Bool
same_block v i w j =
    eqb (v.row i).site (w.row j).site
    && (eqb (v.row i).sequence (w.row j).sequence
    && (all_below (λ slot. eqb ((v.row i).request slot) ((w.row j).request slot)) slot_count
    && (refers_within v i w j
    && refers_within w j v i)))

-- 24: "equal digests with other fields (interpreted aside) or references", for the left's place i and the right's place j; and for the left's place i
-- and some place of the right
abbrev pub clashes : View → View → ℕ → ℕ → Bool
clashes v w i j = has_digest w (v.row i).digest j && not (same_block v i w j)

abbrev pub clash_at : View → View → ℕ → Bool
clash_at v w i = any_below (clashes v w i) w.held

-- the block at the right's place j is "not in the left"
abbrev pub is_extra : View → View → ℕ → Bool
is_extra v w j = not (any_below (has_digest v (w.row j).digest) v.held)

-- how many blocks the result has
abbrev pub joined_count : View → View → ℕ
joined_count v w = v.held + count_below (is_extra v w) w.held

-- 2: either table not in form; 12: one of the three record buffers not of 20,480 numbers; 31: either table has retired something; 23: setups differ;
-- 24: one digest, two blocks, with the lowest left place; 25: more than 64 blocks in the result
abbrev pub join_checks : Bytes → Bytes → ℕ → ℕ → ℕ → List Check
join_checks left right left_size right_size size =
    check 2 (in_form left && in_form right) 0
    ∷ check 12 (eqb left_size buffer_size && (eqb right_size buffer_size && eqb size buffer_size)) 0
    ∷ check 31 (neither_retired left right) 0
    ∷ check 23 (same_setup (setup_of left) (setup_of right)) 0
    ∷ check_none 24 (clash_at (view_of left) (view_of right)) (count_of left)
    ∷ check 25 (leb (joined_count (view_of left) (view_of right)) max_places) 0
    ∷ []

-- the answer of joining; a success tells how many blocks the result has
unfoldable pub join_answer : Bytes → Bytes → List ℕ → List ℕ → List ℕ → Answer
join_answer left right left_records right_records third =
    answer_to (join_checks left right (length left_records) (length right_records) (length third)) (joined_count (view_of left) (view_of right))

-- ---- the table: "the left's places first, then the right's blocks not in the left, in their order, references renumbered"

-- the row of the right's place j, carried into a table that shows v: it refers to the places of v that hold the blocks which place j refers to
abbrev pub carried : View → View → ℕ → Row
carried v w j =
    record {
      digest = (w.row j).digest;
      site = (w.row j).site;
      sequence = (w.row j).sequence;
      refers_to = λ p. ltb p v.held && refers_by w j (v.row p).digest;
      request = (w.row j).request;
      mark = (w.row j).mark;
    }

-- the table t after the right's place j. If t holds the block, it is marked where the right has interpreted it: "A block interpreted in either is
-- interpreted in the result". Else the block is put at the next place
unfoldable pub join_place : Bytes → View → ℕ → Bytes
join_place t w j =
    cond (any_below (has_digest (view_of t) (w.row j).digest) (count_of t))
    (cond (interpreted (w.row j)) (with_mark t (place_in (view_of t) (w.row j).digest)) t)
    (with_row t (carried (view_of t) w j))

-- the left's table t after the right's places below k
unfoldable pub join_below : Bytes → View → ℕ → Bytes
join_below t w zero = t
join_below t w (suc k) = join_place (join_below t w k) w k

-- the table that joining leaves
abbrev pub joined_table : Bytes → Bytes → Bytes
joined_table left right = join_below left (view_of right) (count_of right)

-- ---- the records

-- place i of v holds a block, and the block is interpreted
abbrev pub interpreted_at : View → ℕ → Bool
interpreted_at v i = ltb i v.held && interpreted (v.row i)

-- the part for a block at the left's place i and the right's place j: "the record part handed back belongs to whichever side interpreted it, the
-- left's if both did, an empty part of the left's if neither"
unfoldable pub handed_back : View → View → List ℕ → List ℕ → ℕ → ℕ → List ℕ
handed_back v w left right i j = cond (interpreted_at v i) (part_of left i) (cond (interpreted_at w j) (part_of right j) [])

-- the part for the block of this digest
abbrev pub part_for : View → View → List ℕ → List ℕ → Bytes → List ℕ
part_for v w left right d = handed_back v w left right (place_in v d) (place_in w d)

-- the third buffer after the places below k of the joined table t: "It is copied to a third buffer, whose rest stays"
unfoldable pub copied_below : View → View → List ℕ → List ℕ → Bytes → List ℕ → ℕ → List ℕ
copied_below v w left right t third zero = third
copied_below v w left right t third (suc k) = splice (copied_below v w left right t third k) (part_start k) (part_for v w left right (digest_at t k))

-- the records that joining leaves in the third buffer
abbrev pub joined_records : Bytes → Bytes → List ℕ → List ℕ → List ℕ → List ℕ
joined_records left right left_records right_records third =
    copied_below (view_of left) (view_of right) left_records right_records (joined_table left right) third (count_of (joined_table left right))

-- ---- what a call leaves: "a refusal hands back the left's table", and the third buffer as it was

unfoldable pub joined : Bytes → Bytes → List ℕ → List ℕ → List ℕ → Bytes
joined left right left_records right_records third =
    cond (eqb (join_answer left right left_records right_records third).refusal 0) (joined_table left right) left

unfoldable pub copied : Bytes → Bytes → List ℕ → List ℕ → List ℕ → List ℕ
copied left right left_records right_records third =
    cond (eqb (join_answer left right left_records right_records third).refusal 0) (joined_records left right left_records right_records third) third
