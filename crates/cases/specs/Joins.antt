-- Request Eight: two tables and their records are joined. What joining answers, and the table and the third buffer that it leaves. The digest is the
-- toy one.
use Rattle.std.specs.Prelude.{◌≡◌, true, List, [], ◌∷◌, ◌++◌, ℕ, zero, suc, ◌+◌, ◌-◌, ◌*◌, drop, replicate}
use Rattle.base.specs.Bytes.{Bytes}
use Rattle.base.specs.List.{list_below}
use Rattle.answer.specs.declared.Answer.{Answer}
use Rattle.answer.specs.Checks.{success, refused}
use Rattle.setup.specs.Setup.{lawful, slot_count}
use Rattle.table.specs.Layout.{owners_offset, site_offset, sequence_offset, requests_offset, row_start, table_size, setup_of, count_of, digest_at, site_at, sequence_at, references_at, counted_request_at, mark_at}
use Rattle.table.specs.Form.{in_form}
use Rattle.table.specs.Fresh.{empty_table}
use Rattle.records.specs.Layout.{buffer_size, part_start, part_of}
use Rattle.join.specs.Join.{join_answer, joined, copied}
use Rattle.run.specs.Ledger.Call.{interpret}
use Rattle.run.specs.Run.{Site}
use Rattle.run.specs.Promises.{site_with}
use Rattle.cases.specs.Toy.{toy, block}
use Rattle.cases.specs.Run.{good, zero_records}
use Rattle.cases.specs.Blocks.{sites, fresh, first, fork, second, both, stranger, third, fourth, numbered, four, holding}
use Rattle.cases.specs.Form.{changed, referring, with_mark_at, retired_some}
use Rattle.cases.specs.Arrivals.{table_of}

-- ---- calls

-- the answer of joining two tables, with three record buffers of a, b and c zeros; and with three buffers of the right length
abbrev pub lending : Bytes → Bytes → ℕ → ℕ → ℕ → Answer
lending left right a b c = join_answer left right (replicate a 0) (replicate b 0) (replicate c 0)

abbrev pub joining : Bytes → Bytes → Answer
joining left right = join_answer left right zero_records zero_records zero_records

-- ---- tables

-- `fresh` with a last byte that is not 0: not in form
unfoldable pub unformed : Bytes
unformed = changed fresh (table_size - 1) 1

-- `fresh` with another owner of slot 0
unfoldable pub other_owner : Bytes
other_owner = changed fresh owners_offset 1

-- a block that shares the digest of `third` and refers to `first`, not to `fork`
unfoldable pub twin : Bytes
twin = block 3 0 (toy first ∷ []) []

-- `four` with a block of site 1 at place 1
unfoldable pub other_site : Bytes
other_site = changed four (row_start 1 + site_offset) 1

-- ---- the two sides of the cases below

-- a block of site 1 after `both`
unfoldable pub closing : Bytes
closing = block 1 1 (toy both ∷ toy fourth ∷ []) []

-- the left table, in which `first`, `second` and `stranger` are interpreted
unfoldable pub left_table : Bytes
left_table = with_mark_at (with_mark_at (with_mark_at (table_of (first ∷ fork ∷ third ∷ second ∷ stranger ∷ [])) 0 1) 3 1) 4 1

-- the right table, in which `fork`, `first` and `both` are interpreted. It holds four blocks of the left, in another order
unfoldable pub right_table : Bytes
right_table = with_mark_at (with_mark_at (with_mark_at (table_of (fork ∷ third ∷ first ∷ second ∷ both ∷ fourth ∷ closing ∷ [])) 0 1) 2 1) 4 1

-- k numbers from n on, each one more than the one before
unfoldable pub rising : ℕ → ℕ → List ℕ
rising n zero = []
rising n (suc k) = n ∷ rising (suc n) k

-- three record buffers that have no number in common
unfoldable pub left_records : List ℕ
left_records = rising 0 buffer_size

unfoldable pub right_records : List ℕ
right_records = rising buffer_size buffer_size

unfoldable pub third_buffer : List ℕ
third_buffer = rising (2 * buffer_size) buffer_size

-- the table and the third buffer that joining leaves: for any two tables, and for the two sides
abbrev pub table_from : Bytes → Bytes → Bytes
table_from left right = joined left right left_records right_records third_buffer

abbrev pub buffer_from : Bytes → Bytes → List ℕ
buffer_from left right = copied left right left_records right_records third_buffer

unfoldable pub join_result : Bytes
join_result = table_from left_table right_table

unfoldable pub result_records : List ℕ
result_records = buffer_from left_table right_table

-- the blocks of the result, admitted one after the other and marked; and the blocks of the result with the sides exchanged
unfoldable pub admitted_result : Bytes
admitted_result = with_mark_at (with_mark_at (with_mark_at (with_mark_at (with_mark_at
    (table_of (first ∷ fork ∷ third ∷ second ∷ stranger ∷ both ∷ fourth ∷ closing ∷ [])) 0 1) 1 1) 3 1) 4 1) 5 1

unfoldable pub admitted_exchanged : Bytes
admitted_exchanged = with_mark_at (with_mark_at (with_mark_at (with_mark_at (with_mark_at
    (table_of (fork ∷ third ∷ first ∷ second ∷ both ∷ fourth ∷ closing ∷ stranger ∷ [])) 0 1) 2 1) 3 1) 4 1) 7 1

-- the parts that the third buffer has after joining, place after place, and its rest; and the parts with the sides exchanged
unfoldable pub result_parts : List ℕ
result_parts =
    part_of left_records 0
    ++ (part_of right_records 0
    ++ (part_of third_buffer 2
    ++ (part_of left_records 3
    ++ (part_of left_records 4
    ++ (part_of right_records 4
    ++ drop (part_start 6) third_buffer)))))

unfoldable pub exchanged_parts : List ℕ
exchanged_parts =
    part_of left_records 0
    ++ (part_of third_buffer 1
    ++ (part_of left_records 2
    ++ (part_of right_records 3
    ++ (part_of left_records 4
    ++ (part_of third_buffer 5
    ++ (part_of third_buffer 6
    ++ (part_of right_records 4
    ++ drop (part_start 8) third_buffer)))))))

-- a refusal hands back the left's table, and the third buffer stays
abbrev pub LeftUnchanged : Bytes → Bytes → List ℕ → Type 0
LeftUnchanged left right records =
    (joined left right records right_records third_buffer ≡ left) × (copied left right records right_records third_buffer ≡ third_buffer)

-- ---- two sites that calls reached: both have interpreted `first`, and each has a block that the other lacks

unfoldable pub left_site : Site
left_site = site_with toy (sites 4) left_records (good first ∷ interpret 0 ∷ good second ∷ [])

unfoldable pub right_site : Site
right_site = site_with toy (sites 4) right_records (good fork ∷ interpret 0 ∷ good first ∷ interpret 1 ∷ [])

-- ---- cases

-- "in that order after 2 and 12", and 31 "when joining, before 23": a row for each two neighbours of 2, 12, 31, 23, 24, 25. The first call has both
-- causes and gets the earlier number; in the second only the earlier cause is mended, and it gets the later number.
pub record JoinOrderCases : Type 0 where
  -- every check fails
  pub two_first : join_answer [] [] [] [] [] ≡ refused 2 0
  -- 2, 12: the left table is not in form; the right; both. Each time another buffer is one number short
  pub left_before_size :
      (lending unformed fresh (buffer_size - 1) buffer_size buffer_size ≡ refused 2 0)
      × (lending fresh fresh (buffer_size - 1) buffer_size buffer_size ≡ refused 12 0)
  pub right_before_size :
      (lending fresh unformed buffer_size (buffer_size - 1) buffer_size ≡ refused 2 0)
      × (lending fresh fresh buffer_size (buffer_size - 1) buffer_size ≡ refused 12 0)
  pub both_before_size :
      (lending unformed unformed buffer_size buffer_size (buffer_size - 1) ≡ refused 2 0)
      × (lending fresh fresh buffer_size buffer_size (buffer_size - 1) ≡ refused 12 0)
  -- 12, 23: "12 tests all three": a buffer that is one number short, one that has a number too many, and one that has no number
  pub left_size_before_setup :
      (lending fresh other_owner (buffer_size - 1) buffer_size buffer_size ≡ refused 12 0)
      × (lending fresh other_owner buffer_size buffer_size buffer_size ≡ refused 23 0)
  pub right_size_before_setup :
      (lending fresh other_owner buffer_size (buffer_size + 1) buffer_size ≡ refused 12 0)
      × (lending fresh other_owner buffer_size buffer_size buffer_size ≡ refused 23 0)
  pub third_size_before_setup :
      (lending fresh other_owner buffer_size buffer_size 0 ≡ refused 12 0)
      × (lending fresh other_owner buffer_size buffer_size buffer_size ≡ refused 23 0)
  -- 12, 31: the left table has retired something; the right
  pub size_before_retired :
      (lending (retired_some fresh) fresh buffer_size buffer_size (buffer_size - 1) ≡ refused 12 0)
      × (lending (retired_some fresh) fresh buffer_size buffer_size buffer_size ≡ refused 31 0)
  pub size_before_right_retired :
      (lending fresh (retired_some fresh) (buffer_size - 1) buffer_size buffer_size ≡ refused 12 0)
      × (lending fresh (retired_some fresh) buffer_size buffer_size buffer_size ≡ refused 31 0)
  -- 31, 23: tables of different owners, of which one has retired something, then neither
  pub retired_before_setup :
      (joining (retired_some fresh) other_owner ≡ refused 31 0)
      × (joining fresh other_owner ≡ refused 23 0)
  pub right_retired_before_setup :
      (joining fresh (retired_some other_owner) ≡ refused 31 0)
      × (joining fresh other_owner ≡ refused 23 0)
  -- 23, 24: one digest with two sites, in tables of different owners, then of the same
  pub setup_before_clash :
      (joining four (changed other_site owners_offset 1) ≡ refused 23 0)
      × (joining four other_site ≡ refused 24 1)
  -- 24, 25: a full table, and a table of two blocks of which the left holds one; that one has another site, then the same
  pub clash_before_full :
      (joining (holding 64) (changed (table_of (numbered 5 ∷ stranger ∷ [])) (row_start 0 + site_offset) 1) ≡ refused 24 5)
      × (joining (holding 64) (table_of (numbered 5 ∷ stranger ∷ [])) ≡ refused 25 0)

-- "23, setups differ".
pub record JoinSetupCases : Type 0 where
  -- another n
  pub more_sites : joining fresh (empty_table (sites 7)) ≡ refused 23 0
  pub fewer_sites : joining (empty_table (sites 7)) fresh ≡ refused 23 0
  -- another owner of one slot: of the first, and of the last
  pub first_owner : joining fresh other_owner ≡ refused 23 0
  pub last_owner : joining (changed fresh (owners_offset + 7) 1) fresh ≡ refused 23 0
  -- setups that do not differ
  pub same_owners : joining other_owner other_owner ≡ success 0

-- "24, equal digests with other fields (interpreted aside) or references, with the lowest left place". `four` holds two forks of site 0 at places 0
-- and 1, a block of site 3 that refers to place 1 at place 2, and site 3's next block, which refers to places 0 and 2, at place 3.
pub record ClashCases : Type 0 where
  pub another_site : joining four other_site ≡ refused 24 1
  pub another_sequence : joining four (changed four (row_start 3 + sequence_offset + 1) 0) ≡ refused 24 3
  -- another request in slot 0, and another high byte of the request in slot 7
  pub another_request : joining four (changed four (row_start 0 + requests_offset + 1) 43) ≡ refused 24 0
  pub another_last_request : joining four (changed four (row_start 3 + requests_offset + 14) 1) ≡ refused 24 3
  -- one reference more, on the left and on the right
  pub left_refers_more : joining (referring four 2 3) four ≡ refused 24 2
  pub right_refers_more : joining four (referring four 2 3) ≡ refused 24 2
  -- one reference more, to a block that the other side does not hold
  pub left_refers_further : joining (referring four 2 3) (table_of (fork ∷ third ∷ [])) ≡ refused 24 2
  pub right_refers_further : joining four (referring (table_of (fork ∷ stranger ∷ third ∷ [])) 2 3) ≡ refused 24 2
  -- references to the same places, which hold other blocks
  pub same_places : joining four (table_of (fork ∷ first ∷ twin ∷ [])) ≡ refused 24 2
  -- references to other places, which hold the same blocks
  pub same_blocks : joining four (table_of (fork ∷ first ∷ third ∷ fourth ∷ [])) ≡ success 4
  -- "interpreted aside"
  pub right_interpreted : joining four (with_mark_at four 0 1) ≡ success 4
  pub left_interpreted : joining (with_mark_at four 0 1) four ≡ success 4
  -- places 1 and 2 clash; on the right the block of place 2 stands before that of place 1
  pub lowest_left : joining four (changed (table_of (first ∷ twin ∷ fork ∷ [])) (row_start 2 + site_offset) 1) ≡ refused 24 1
  -- the same fields with another digest are another block
  pub other_digest : joining (table_of (first ∷ [])) (changed (table_of (first ∷ [])) (row_start 0 + 31) 1) ≡ success 2

-- "25, more than 64 blocks in the result". The value of a success is the number of blocks in the result.
pub record JoinFullCases : Type 0 where
  pub sixty_four : joining (holding 63) (table_of (stranger ∷ [])) ≡ success 64
  pub sixty_five : joining (holding 64) (table_of (stranger ∷ [])) ≡ refused 25 0
  -- 64 blocks and 65 in the result, with the sides exchanged
  pub right_sixty_three : joining (table_of (stranger ∷ [])) (holding 63) ≡ success 64
  pub right_sixty_four : joining (table_of (stranger ∷ [])) (holding 64) ≡ refused 25 0
  -- a block that both tables hold counts once
  pub in_both : joining (holding 64) (holding 2) ≡ success 64
  -- the 64th block is put at the last place
  pub last_place : table_from (holding 63) (table_of (numbered 63 ∷ [])) ≡ holding 64

-- "a refusal hands back the left's table"; and the third buffer stays.
pub record HandedBackCases : Type 0 where
  -- 2: the left table is not in form; the right
  pub by_left : LeftUnchanged unformed left_table left_records
  pub by_right : LeftUnchanged left_table unformed left_records
  -- 12, 23, 24, 25
  pub by_size : LeftUnchanged left_table right_table []
  pub by_setup : LeftUnchanged left_table other_owner left_records
  pub by_clash : LeftUnchanged four other_site left_records
  pub by_full : LeftUnchanged (holding 64) (table_of (stranger ∷ [])) left_records

-- "From tables and records that calls reached": the premises of what crates/joined promises can be met.
pub record ReachedCases : Type 0 where
  pub lawful_setup : lawful (sites 4) ≡ true
  pub both_reached : join_answer left_site.table right_site.table left_site.records right_site.records third_buffer ≡ success 3

-- The result's table, field by field and as a whole.
pub record ResultCases : Type 0 where
  pub answer : join_answer left_table right_table left_records right_records third_buffer ≡ success 8
  pub formed : in_form join_result ≡ true
  pub setup : setup_of join_result ≡ sites 4
  pub count : count_of join_result ≡ 8
  -- "the left's places first, then the right's blocks not in the left, in their order"
  pub digests :
      list_below (digest_at join_result) 8
      ≡ toy first ∷ toy fork ∷ toy third ∷ toy second ∷ toy stranger ∷ toy both ∷ toy fourth ∷ toy closing ∷ []
  pub site_numbers : list_below (site_at join_result) 8 ≡ 0 ∷ 0 ∷ 3 ∷ 0 ∷ 3 ∷ 1 ∷ 3 ∷ 1 ∷ []
  pub sequences : list_below (sequence_at join_result) 8 ≡ 0 ∷ 0 ∷ 0 ∷ 1 ∷ 0 ∷ 0 ∷ 1 ∷ 1 ∷ []
  pub requested : list_below (counted_request_at join_result 6) slot_count ≡ 0 ∷ 0 ∷ 0 ∷ 0 ∷ 0 ∷ 772 ∷ 0 ∷ 1 ∷ []
  -- "references renumbered", as masks. On the right `both` refers to places 0 and 2, `fourth` to 1 and 2, `closing` to 4 and 5; in the result to
  -- 0 and 1, to 0 and 2, to 5 and 6
  pub right_references : list_below (references_at right_table) 7 ≡ 0 ∷ 1 ∷ 0 ∷ 4 ∷ 5 ∷ 6 ∷ 48 ∷ []
  pub references : list_below (references_at join_result) 8 ≡ 0 ∷ 0 ∷ 2 ∷ 1 ∷ 0 ∷ 3 ∷ 5 ∷ 96 ∷ []
  -- "A block interpreted in either is interpreted in the result"
  pub left_marks : list_below (mark_at left_table) 5 ≡ 1 ∷ 0 ∷ 0 ∷ 1 ∷ 1 ∷ []
  pub right_marks : list_below (mark_at right_table) 7 ≡ 1 ∷ 0 ∷ 1 ∷ 0 ∷ 1 ∷ 0 ∷ 0 ∷ []
  pub marks : list_below (mark_at join_result) 8 ≡ 1 ∷ 1 ∷ 0 ∷ 1 ∷ 1 ∷ 1 ∷ 0 ∷ 0 ∷ []
  -- the result is the table that admissions of its blocks leave, with these marks
  pub as_admitted : join_result ≡ admitted_result
  -- the result with the sides exchanged is the table that admissions of its blocks leave
  pub exchanged : table_from right_table left_table ≡ admitted_exchanged
  -- joining with an empty right table, with an empty left table, and of a table with itself
  pub empty_right : table_from left_table fresh ≡ left_table
  pub empty_left : table_from fresh right_table ≡ right_table
  pub same_twice : table_from left_table left_table ≡ left_table

-- "the record part handed back belongs to whichever side interpreted it, the left's if both did, an empty part of the left's if neither. It is copied
-- to a third buffer, whose rest stays".
pub record ResultPartCases : Type 0 where
  -- both interpreted `first`, place 0 of the left and 2 of the right
  pub of_both : part_of result_records 0 ≡ part_of left_records 0
  -- the right alone interpreted `fork`, place 1 of the left and 0 of the right
  pub of_the_right : part_of result_records 1 ≡ part_of right_records 0
  -- neither interpreted `third`
  pub of_neither : part_of result_records 2 ≡ part_of third_buffer 2
  -- the left alone interpreted `second`, which the right holds too
  pub of_the_left : part_of result_records 3 ≡ part_of left_records 3
  -- only the left holds `stranger`, and only the right holds `both`, at place 4
  pub only_left : part_of result_records 4 ≡ part_of left_records 4
  pub only_right : part_of result_records 5 ≡ part_of right_records 4
  -- the right, which alone holds `fourth` and `closing`, did not interpret them
  pub not_interpreted : (part_of result_records 6 ≡ part_of third_buffer 6) × (part_of result_records 7 ≡ part_of third_buffer 7)
  -- the third buffer from the count on
  pub after_count : drop (part_start 8) result_records ≡ drop (part_start 8) third_buffer
  -- the whole third buffer
  pub whole : result_records ≡ result_parts
  -- the whole third buffer with the sides exchanged
  pub exchanged : buffer_from right_table left_table ≡ exchanged_parts
  -- where no block is interpreted, nothing is copied
  pub nothing_copied : buffer_from four four ≡ third_buffer
