-- Admission: short runs of calls from a table, with the answer of each call. The digest is the toy one.
use Rattle.std.specs.Prelude.{◌≡◌, true, [], ◌∷◌, ◌++◌, drop}
use Rattle.base.specs.List.{list_below}
use Rattle.base.specs.Bytes.{all_zero}
use Rattle.answer.specs.Checks.{refused}
use Rattle.setup.specs.Setup.{slot_count}
use Rattle.table.specs.Layout.{row_start, count_of, digest_at, site_at, sequence_at, references_at, counted_request_at, mark_at, with_row}
use Rattle.table.specs.Fresh.{nothing}
use Rattle.admission.specs.Admission.{row_for}
use Rattle.cases.specs.Toy.{toy, request, block}
use Rattle.cases.specs.Run.{good, judged, placed, table_after, answers}
use Rattle.cases.specs.Blocks.{fresh, unlawful, first, fork, second, both, stranger, third, fourth, numbered, four, holding}

-- "checks 2 to 11 in that order", and 18 "straight after 6": a row for each two neighbours, and one for 5 and 18. Of the last two arrivals the first has
-- both causes and gets the earlier number; in the second only the earlier cause is mended, and it gets the later number.
pub record OrderCases : Type 0 where
  -- 2, 3: four bytes, brought to a table of three sites, then to a table of four
  pub form_before_shape :
      (answers toy unlawful (good (0 ∷ 0 ∷ 0 ∷ 0 ∷ []) ∷ []) ≡ refused 2 0 ∷ [])
      × (answers toy fresh (good (0 ∷ 0 ∷ 0 ∷ 0 ∷ []) ∷ []) ≡ refused 3 0 ∷ [])
  -- 3, 4: four bytes that begin with site 4, then five
  pub shape_before_site :
      answers toy fresh (good (4 ∷ 0 ∷ 0 ∷ 0 ∷ []) ∷ good (4 ∷ 0 ∷ 0 ∷ 0 ∷ 0 ∷ []) ∷ []) ≡ refused 3 0 ∷ refused 4 0 ∷ []
  -- 4, 5: verdict 0 on a block of site 4, then on a block of site 3
  pub site_before_verdict :
      answers toy fresh (judged 0 (block 4 0 [] []) ∷ judged 0 (block 3 0 [] []) ∷ []) ≡ refused 4 0 ∷ refused 5 0 ∷ []
  -- 5, 6: a request for slot 8 with verdict 0, then with verdict 1
  pub verdict_before_request :
      answers toy fresh
      (judged 0 (block 0 0 [] (request 7 1 ∷ request 8 1 ∷ []))
      ∷ good (block 0 0 [] (request 7 1 ∷ request 8 1 ∷ []))
      ∷ [])
      ≡ refused 5 0 ∷ refused 6 1 ∷ []
  -- 5, 18: slot 3 requested twice, with verdict 0, then with verdict 1
  pub verdict_before_slot :
      answers toy fresh
      (judged 0 (block 0 0 [] (request 3 1 ∷ request 3 1 ∷ []))
      ∷ good (block 0 0 [] (request 3 1 ∷ request 3 1 ∷ []))
      ∷ [])
      ≡ refused 5 0 ∷ refused 18 1 ∷ []
  -- 6, 18: slot 3 requested twice, and a third request of number 0, then of number 1
  pub request_before_slot :
      answers toy fresh
      (good (block 0 0 [] (request 3 1 ∷ request 3 1 ∷ request 4 0 ∷ []))
      ∷ good (block 0 0 [] (request 3 1 ∷ request 3 1 ∷ request 4 1 ∷ []))
      ∷ [])
      ≡ refused 6 2 ∷ refused 18 1 ∷ []
  -- 18, 7: a repeated reference, and slot 3 requested twice, then slots 3 and 4
  pub slot_before_repeated :
      answers toy fresh
      (good (block 1 0 (toy first ∷ toy first ∷ []) (request 3 1 ∷ request 3 1 ∷ []))
      ∷ good (block 1 0 (toy first ∷ toy first ∷ []) (request 3 1 ∷ request 4 1 ∷ []))
      ∷ [])
      ≡ refused 18 1 ∷ refused 7 1 ∷ []
  -- 7, 8: a block that shares a held block's digest and repeats a reference, then the held block once more
  pub repeated_before_held :
      answers toy fresh (good first ∷ good fork ∷ good both ∷ good (block 1 0 (toy first ∷ toy first ∷ []) []) ∷ good both ∷ [])
      ≡ placed 0 ∷ placed 1 ∷ placed 2 ∷ refused 7 1 ∷ refused 8 2 ∷ []
  -- 8, 9: a block that shares a held block's digest and refers to a block that is not held, then the same block of another site, whose digest is not
  -- held
  pub held_before_missing :
      answers toy fresh
      (good first
      ∷ good fork
      ∷ good both
      ∷ good (block 1 0 (toy first ∷ toy stranger ∷ []) [])
      ∷ good (block 2 0 (toy first ∷ toy stranger ∷ []) [])
      ∷ [])
      ≡ placed 0 ∷ placed 1 ∷ placed 2 ∷ refused 8 2 ∷ refused 9 1 ∷ []
  -- 9, 10: a block of sequence 2 that refers to a block of sequence 0 and to a block that is not held, then to the block of sequence 0 alone
  pub missing_before_parent :
      answers toy fresh (good first ∷ good (block 0 2 (toy first ∷ toy stranger ∷ []) []) ∷ good (block 0 2 (toy first ∷ []) []) ∷ [])
      ≡ placed 0 ∷ refused 9 1 ∷ refused 10 0 ∷ []
  -- 10, 11: in a full table, a block of sequence 1 without references, then a block of sequence 0. Before these come the 64th block, and a held block
  -- again
  pub parent_before_full :
      answers toy (holding 63) (good (numbered 63) ∷ good (numbered 5) ∷ good (block 0 1 [] []) ∷ good (block 0 0 [] []) ∷ [])
      ≡ placed 63 ∷ refused 8 5 ∷ refused 10 0 ∷ refused 11 0 ∷ []
  -- the table `holding k`, which is written down at once, is what admissions leave
  pub filling : table_after toy fresh (good (numbered 0) ∷ good (numbered 1) ∷ []) ≡ holding 2

-- What admission puts into the table.
pub record RowCases : Type 0 where
  -- the bytes of the fourth block, field after field
  pub written : fourth ≡ 3 ∷ 0 ∷ 1 ∷ 2 ∷ 2 ∷ (toy third ++ (toy first ++ (5 ∷ 3 ∷ 4 ∷ 7 ∷ 0 ∷ 1 ∷ [])))
  -- the table `four`: its count, and each field at places 0 to 3
  pub count : count_of four ≡ 4
  pub digests : list_below (digest_at four) 4 ≡ toy first ∷ toy fork ∷ toy third ∷ toy fourth ∷ []
  pub site_numbers : list_below (site_at four) 4 ≡ 0 ∷ 0 ∷ 3 ∷ 3 ∷ []
  pub sequences : list_below (sequence_at four) 4 ≡ 0 ∷ 0 ∷ 0 ∷ 1 ∷ []
  -- the references as masks: place 2 refers to place 1, and place 3 to places 0 and 2
  pub references : list_below (references_at four) 4 ≡ 0 ∷ 0 ∷ 2 ∷ 5 ∷ []
  -- the request of each slot, 0 where there is none
  pub one_request : list_below (counted_request_at four 0) slot_count ≡ 42 ∷ 0 ∷ 0 ∷ 0 ∷ 0 ∷ 0 ∷ 0 ∷ 0 ∷ []
  pub two_requests : list_below (counted_request_at four 3) slot_count ≡ 0 ∷ 0 ∷ 0 ∷ 0 ∷ 0 ∷ 772 ∷ 0 ∷ 1 ∷ []
  -- "uninterpreted"
  pub marks : list_below (mark_at four) 4 ≡ 0 ∷ 0 ∷ 0 ∷ 0 ∷ []
  -- "Entries from the count on are zero"
  pub rest : all_zero (drop (row_start 4) four) ≡ true
  -- both bytes of a sequence number. The row is put without admission, as no table in form that has retired nothing has a sequence number above 63
  pub high_sequence : sequence_at (with_row fresh (row_for toy nothing (block 3 258 [] []))) 0 ≡ 258

-- What is admitted, and the value beside each number.
pub record ValueCases : Type 0 where
  -- "A block may refer to other blocks of its own site too": a block of sequence 0 does
  pub own_site : answers toy fresh (good first ∷ good (block 0 0 (toy first ∷ []) []) ∷ []) ≡ placed 0 ∷ placed 1 ∷ []
  -- a block of sequence 2 refers to its parent and to another block of its own site
  pub beside_parent :
      answers toy fresh (good first ∷ good second ∷ good (block 0 2 (toy first ∷ toy second ∷ []) []) ∷ []) ≡ placed 0 ∷ placed 1 ∷ placed 2 ∷ []
  -- a block refers to a block of its own site of a higher sequence number; and one to its parent and to a block of its own sequence number
  pub own_later :
      answers toy fresh
      (good first
      ∷ good second
      ∷ good (block 0 0 (toy second ∷ []) (request 0 44 ∷ []))
      ∷ good (block 0 1 (toy first ∷ toy second ∷ []) [])
      ∷ [])
      ≡ placed 0 ∷ placed 1 ∷ placed 2 ∷ placed 3 ∷ []
  -- one of two forks is the parent: the other, which is held but not among the references, does not count
  pub one_fork :
      answers toy fresh (good first ∷ good fork ∷ good (block 0 1 (toy fork ∷ []) []) ∷ []) ≡ placed 0 ∷ placed 1 ∷ placed 2 ∷ []
  -- 10: a block of another site is no parent
  pub other_site : answers toy fresh (good first ∷ good (block 1 1 (toy first ∷ []) []) ∷ []) ≡ placed 0 ∷ refused 10 0 ∷ []
  -- 10: sequence number 256 is taken for neither 0 nor 1
  pub high_byte :
      answers toy fresh (good first ∷ good (block 0 256 [] []) ∷ good (block 0 256 (toy first ∷ []) []) ∷ [])
      ≡ placed 0 ∷ refused 10 0 ∷ refused 10 0 ∷ []
  -- 5: "link verdict not 1"
  pub verdict_two : answers toy fresh (judged 2 first ∷ []) ≡ refused 5 0 ∷ []
  -- 6: "slot over 7, or number 0", with the index of the first such request
  pub slot_eight : answers toy fresh (good (block 0 0 [] (request 7 1 ∷ request 8 1 ∷ request 0 0 ∷ [])) ∷ []) ≡ refused 6 1 ∷ []
  pub number_none : answers toy fresh (good (block 0 0 [] (request 7 1 ∷ request 6 256 ∷ request 0 0 ∷ [])) ∷ []) ≡ refused 6 2 ∷ []
  -- 18: "a slot equal to an earlier one in the same block", with the index of the first such request, which is the later of the two
  pub requested_twice : answers toy fresh (good (block 0 0 [] (request 0 43 ∷ request 0 42 ∷ [])) ∷ []) ≡ refused 18 1 ∷ []
  pub repeated_slots :
      answers toy fresh (good (block 0 0 [] (request 7 1 ∷ request 0 2 ∷ request 1 3 ∷ request 0 4 ∷ request 7 5 ∷ [])) ∷ []) ≡ refused 18 3 ∷ []
  -- 7: "a reference equal to an earlier one", with the index of the first such
  pub repeated_later :
      answers toy fresh (good (block 1 0 (toy first ∷ toy fork ∷ toy fork ∷ toy first ∷ []) []) ∷ []) ≡ refused 7 2 ∷ []
  -- 8: "digest held", with its place
  pub held_place : answers toy fresh (good first ∷ good fork ∷ good fork ∷ []) ≡ placed 0 ∷ placed 1 ∷ refused 8 1 ∷ []
  -- 9: "reference not held", with the index of the first such
  pub missing_index :
      answers toy fresh (good first ∷ good (block 1 0 (toy first ∷ toy fork ∷ toy stranger ∷ []) []) ∷ []) ≡ placed 0 ∷ refused 9 1 ∷ []
