-- The cases of joining, by computing: what is long is compared by a test, which is fast. Assumes nothing.
use mathlib.Core.Path.{◌≡◌, refl, ap, ◌∙◌}
use mathlib.Core.Bool.{Bool, true, false}
use mathlib.Core.List.{List, [], ◌∷◌}
use Prim.Native.Nat.{ℕ, ◌+◌}
use lib.Dec.{eqb}
use lib.ListN.{length, drop}
use Rattle.base.specs.Bytes.{Bytes, same_bytes}
use Rattle.base.proofs.Bytes.{same_equal}
use Rattle.answer.specs.declared.Answer.{Answer}
use Rattle.answer.specs.Checks.{success, refused, answer_to}
use Rattle.table.specs.Layout.{row_start, site_offset, view_of, with_mark}
use Rattle.table.specs.Form.{in_form}
use Rattle.table.specs.Fresh.{fresh_table}
use Rattle.records.specs.Layout.{flatten, part_start, part_of, numbers_of}
use Rattle.interpret.specs.Interpretation.{join_if, directs_below, record_for, marked, recorded}
use Rattle.join.specs.Join.{same_block, joined_count, join_checks, join_answer, join_place, join_below, joined_table, handed_back, copied_below, joined, copied}
use Rattle.cases.specs.Run.{zero_records}
use Rattle.cases.specs.Blocks.{fresh, stranger, numbered, four, holding}
use Rattle.cases.specs.Form.{changed}
use Rattle.cases.specs.Arrivals.{table_of}
use Rattle.cases.specs.Joins.{joining, unformed, other_owner, twin, other_site, closing, left_table, right_table, rising, left_records, right_records, third_buffer, table_from, buffer_from, join_result, result_records, admitted_result, admitted_exchanged, result_parts, exchanged_parts, LeftUnchanged, JoinOrderCases, JoinSetupCases, ClashCases, JoinFullCases, HandedBackCases, ResultCases, ResultPartCases, ReachedCases, left_site, right_site}
use Rattle.cases.proofs.Computing.{opened_ledger, opened_table}
use Rattle.cases.proofs.Full.{formed, full_formed}

-- what joining is computed by
unfoldable opened_joins : Bool
unfolding opened_table with_mark same_block join_answer join_place join_below handed_back copied_below joined copied table_of unformed other_owner twin
    other_site closing left_table right_table rising left_records right_records third_buffer join_result result_records admitted_result
    admitted_exchanged result_parts exchanged_parts
opened_joins = true

-- a table and a buffer stay where a number is answered
stays : (left right : Bytes) (records : List ℕ) → eqb (join_answer left right records right_records third_buffer).refusal 0 ≡ false → LeftUnchanged left right records
unfolding joined copied
stays left right records e = (rw e, rw e)

-- the result's records, and a part of them
records_are : result_records ≡ result_parts
unfolding opened_joins
records_are = same_equal result_records result_parts refl

part_is : (p : ℕ) (records : List ℕ) (q : ℕ) → same_bytes (part_of result_parts p) (part_of records q) ≡ true → part_of result_records p ≡ part_of records q
part_is p records q e = ap (λ (l : List ℕ). part_of l p) records_are ∙ same_equal (part_of result_parts p) (part_of records q) e

rest_is : same_bytes (drop (part_start 8) result_parts) (drop (part_start 8) third_buffer) ≡ true → drop (part_start 8) result_records ≡ drop (part_start 8) third_buffer
rest_is e = ap (λ (l : List ℕ). drop (part_start 8) l) records_are ∙ same_equal (drop (part_start 8) result_parts) (drop (part_start 8) third_buffer) e

-- ---- full tables: their form is known and not computed again

-- the answer at tables in form
unfoldable answer_formed : Bytes → Bytes → List ℕ → List ℕ → List ℕ → Answer
answer_formed left right a b c =
    answer_to (drop 1 (join_checks left right (length a) (length b) (length c))) (joined_count (view_of left) (view_of right))

module _ (left right : Bytes) (e : in_form left ≡ true) (f : in_form right ≡ true) where
  answer_formed_lem : (a b c : List ℕ) → join_answer left right a b c ≡ answer_formed left right a b c
  unfolding join_answer answer_to answer_formed
  answer_formed_lem a b c = rw (e, f)

  answers : (y : Answer) → answer_formed left right zero_records zero_records zero_records ≡ y → joining left right ≡ y
  answers y g = answer_formed_lem zero_records zero_records zero_records ∙ g

  joins : eqb (answer_formed left right left_records right_records third_buffer).refusal 0 ≡ true → table_from left right ≡ joined_table left right
  unfolding joined
  joins g = rw (answer_formed_lem left_records right_records third_buffer, g)

  refuses : eqb (answer_formed left right left_records right_records third_buffer).refusal 0 ≡ false → LeftUnchanged left right left_records
  refuses g = stays left right left_records (ap (λ (y : Answer). eqb y.refusal 0) (answer_formed_lem left_records right_records third_buffer) ∙ g)

-- all that computing an answer there opens
unfoldable opened_formed : Bool
unfolding opened_joins answer_formed
opened_formed = true

-- the tables beside them
abbrev pair : Bytes
pair = table_of (numbered 5 ∷ stranger ∷ [])

abbrev other : Bytes
other = changed pair (row_start 0 + site_offset) 1

abbrev one : Bytes
one = table_of (stranger ∷ [])

abbrev last : Bytes
last = table_of (numbered 63 ∷ [])

clash_before_full : (joining (holding 64) other ≡ refused 24 5) × (joining (holding 64) pair ≡ refused 25 0)
unfolding opened_formed
clash_before_full = (answers (holding 64) other full_formed refl (refused 24 5) refl, answers (holding 64) pair full_formed refl (refused 25 0) refl)

last_place : table_from (holding 63) last ≡ holding 64
unfolding opened_formed
last_place = joins (holding 63) last formed refl refl ∙ same_equal (joined_table (holding 63) last) (holding 64) refl

pub full : JoinFullCases
unfolding opened_formed
full =
    record {
      sixty_four = answers (holding 63) one formed refl (success 64) refl;
      sixty_five = answers (holding 64) one full_formed refl (refused 25 0) refl;
      right_sixty_three = answers one (holding 63) refl formed (success 64) refl;
      right_sixty_four = answers one (holding 64) refl full_formed (refused 25 0) refl;
      in_both = answers (holding 64) (holding 2) full_formed refl (success 64) refl;
      last_place = last_place;
    }

by_full : LeftUnchanged (holding 64) one left_records
unfolding opened_formed
by_full = refuses (holding 64) one full_formed refl refl

-- ---- the cases

pub order : JoinOrderCases
unfolding opened_joins
order =
    record {
      two_first = refl;
      left_before_size = (refl, refl);
      right_before_size = (refl, refl);
      both_before_size = (refl, refl);
      left_size_before_setup = (refl, refl);
      right_size_before_setup = (refl, refl);
      third_size_before_setup = (refl, refl);
      size_before_retired = (refl, refl);
      size_before_right_retired = (refl, refl);
      retired_before_setup = (refl, refl);
      right_retired_before_setup = (refl, refl);
      setup_before_clash = (refl, refl);
      clash_before_full = clash_before_full;
    }

pub setups : JoinSetupCases
unfolding opened_joins
setups = record { more_sites = refl; fewer_sites = refl; first_owner = refl; last_owner = refl; same_owners = refl }

pub clashes : ClashCases
unfolding opened_joins
clashes =
    record {
      another_site = refl;
      another_sequence = refl;
      another_request = refl;
      another_last_request = refl;
      left_refers_more = refl;
      right_refers_more = refl;
      left_refers_further = refl;
      right_refers_further = refl;
      same_places = refl;
      same_blocks = refl;
      right_interpreted = refl;
      left_interpreted = refl;
      lowest_left = refl;
      other_digest = refl;
    }

pub kept : HandedBackCases
unfolding opened_joins
kept =
    record {
      by_left = stays unformed left_table left_records refl;
      by_right = stays left_table unformed left_records refl;
      by_size = stays left_table right_table [] refl;
      by_setup = stays left_table other_owner left_records refl;
      by_clash = stays four other_site left_records refl;
      by_full = by_full;
    }

pub results : ResultCases
unfolding opened_joins
results =
    record {
      answer = refl;
      formed = refl;
      setup = refl;
      count = refl;
      digests = refl;
      site_numbers = refl;
      sequences = refl;
      requested = refl;
      right_references = refl;
      references = refl;
      left_marks = refl;
      right_marks = refl;
      marks = refl;
      as_admitted = same_equal join_result admitted_result refl;
      exchanged = same_equal (table_from right_table left_table) admitted_exchanged refl;
      empty_right = same_equal (table_from left_table fresh) left_table refl;
      empty_left = same_equal (table_from fresh right_table) right_table refl;
      same_twice = same_equal (table_from left_table left_table) left_table refl;
    }

pub parts : ResultPartCases
unfolding opened_joins
parts =
    record {
      of_both = part_is 0 left_records 0 refl;
      of_the_right = part_is 1 right_records 0 refl;
      of_neither = part_is 2 third_buffer 2 refl;
      of_the_left = part_is 3 left_records 3 refl;
      only_left = part_is 4 left_records 4 refl;
      only_right = part_is 5 right_records 4 refl;
      not_interpreted = (part_is 6 third_buffer 6 refl, part_is 7 third_buffer 7 refl);
      after_count = rest_is refl;
      whole = records_are;
      exchanged = same_equal (buffer_from right_table left_table) exchanged_parts refl;
      nothing_copied = same_equal (buffer_from four four) third_buffer refl;
    }

-- ---- two sites that calls reached

pub reached : ReachedCases
unfolding opened_joins opened_ledger left_site right_site fresh_table marked recorded join_if directs_below record_for flatten numbers_of
reached = record { lawful_setup = refl; both_reached = refl }
