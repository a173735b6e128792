-- Building: document 01, "Building", on the tables of the cases.
use Rattle.std.specs.Prelude.{◌≡◌, false, [], ◌∷◌, ◌++◌, ℕ, zero, suc, ◌+◌, eqb, replicate}
use Rattle.base.specs.Bytes.{Bytes}
use Rattle.base.specs.List.{list_below}
use Rattle.answer.specs.Checks.{success, refused}
use Rattle.block.specs.Limits.{block_size, max_references}
use Rattle.block.specs.Layout.{references_of}
use Rattle.table.specs.View.{Row}
use Rattle.table.specs.Layout.{site_offset, row_start, view_of, layout}
use Rattle.watch.specs.Forks.{everywhere}
use Rattle.build.specs.Building.{next_block, building, built}
use Rattle.cases.specs.Toy.{toy, request, block}
use Rattle.cases.specs.Blocks.{sites, fresh, unlawful, first, fork, third, fourth, numbered, four, holding}
use Rattle.cases.specs.Form.{changed, referring}
use Rattle.cases.specs.Watch.{interpreted_row}

-- the bytes of a request of a number up to 255
abbrev pub request_written : ℕ → ℕ → Bytes
request_written slot number = slot ∷ 0 ∷ number ∷ []

-- requests of number 1 in slots 0 to 4
abbrev pub five_written : Bytes
five_written = request_written 0 1 ++ request_written 1 1 ++ request_written 2 1 ++ request_written 3 1 ++ request_written 4 1

-- an output of `size` bytes
abbrev pub room : ℕ → Bytes
room size = replicate size 9

-- a table that has retired something and holds k blocks of site 0, all interpreted, of this sequence number
abbrev pub numbered_to : ℕ → ℕ → Bytes
numbered_to k sequence = layout (sites 4) (record { retired = 1; held = k; row = λ i. interpreted_row i 0 sequence (λ j. false) })

-- a table that has retired something: it holds a block of site 1, a block of site 2 that refers to it, a block of site 3 that refers to site 2's; and
-- site 3's first block, which was retired and is admitted again
unfoldable pub returned_row : ℕ → Row
returned_row zero = interpreted_row 0 1 0 (λ j. false)
returned_row (suc zero) = interpreted_row 1 2 0 (λ j. eqb j 0)
returned_row (suc (suc zero)) = interpreted_row 2 3 2 (λ j. eqb j 1)
returned_row (suc (suc (suc i))) = interpreted_row 3 3 0 (λ j. false)

unfoldable pub returned : Bytes
returned = layout (sites 4) (record { retired = 1; held = 4; row = returned_row })

-- "Checks 2, 4, 3, 6, 16, 17", 18 "straight after 6" and 30 "straight after 16": a row for each two neighbours. Of the two calls the first has both
-- causes and gets the earlier number; in the second only the earlier cause is mended, and it gets the later number.
pub record BuildingOrderCases : Type 0 where
  -- 2, 4: site 4, on a table of three sites, then on a table of four
  pub form_before_site : (building unlawful 4 [] [] ≡ refused 2 0) × (building fresh 4 [] [] ≡ refused 4 0)
  -- 4, 3: a request list of one byte, for site 4, then for site 3
  pub site_before_list : (building fresh 4 (0 ∷ []) [] ≡ refused 4 0) × (building fresh 3 (0 ∷ []) [] ≡ refused 3 0)
  -- 3, 6: a request of slot 8 and a byte more, then without that byte
  pub list_before_request : (building fresh 3 (request_written 8 1 ++ (0 ∷ [])) [] ≡ refused 3 0) × (building fresh 3 (request_written 8 1) [] ≡ refused 6 0)
  -- 6, 18: slot 0 twice, and a third request of number 0, then of number 1
  pub request_before_slot :
      (building four 0 (request_written 0 1 ++ request_written 0 1 ++ request_written 1 0) [] ≡ refused 6 2)
      × (building four 0 (request_written 0 1 ++ request_written 0 1 ++ request_written 1 1) [] ≡ refused 18 1)
  -- 18, 16: a site that forked, with slot 0 twice, then with slots 0 and 1
  pub slot_before_fork :
      (building four 0 (request_written 0 1 ++ request_written 0 2) [] ≡ refused 18 1) × (building four 0 (request_written 0 1 ++ request_written 1 2) [] ≡ refused 16 0)
  -- 16, 17: an output of no bytes, for a site that forked, then for a site that did not
  pub fork_before_output : (building four 0 [] [] ≡ refused 16 0) × (building four 3 [] [] ≡ refused 17 (block_size 1 0))
  -- 16, 30: two blocks of sequence number 65,535, then one
  pub fork_before_end : (building (numbered_to 2 65535) 0 [] [] ≡ refused 16 0) × (building (numbered_to 1 65535) 0 [] [] ≡ refused 30 0)
  -- 30, 17: an output of no bytes, after a block of sequence number 65,535, then after one of 65,534
  pub end_before_output : (building (numbered_to 1 65535) 0 [] [] ≡ refused 30 0) × (building (numbered_to 1 65534) 0 [] [] ≡ refused 17 (block_size 1 0))

pub record BuildingCases : Type 0 where
  -- 65,535 is the last sequence number
  pub last_sequence : built (numbered_to 1 65534) 0 [] (room 37) ≡ block 0 65535 (toy (numbered 0) ∷ []) []
  pub past_last : building (numbered_to 1 65535) 0 [] (room 37) ≡ refused 30 0
  pub past_last_other : building (numbered_to 1 65535) 1 [] (room 37) ≡ success 37
  -- "a request list at most 15": 15 bytes, 16, 18 and 24
  pub five_listed : building fresh 3 five_written (room 20) ≡ success 20
  pub sixteen_bytes : building fresh 3 (five_written ++ (5 ∷ [])) (room 29) ≡ refused 3 0
  pub six_listed : building fresh 3 (five_written ++ request_written 5 1) (room 29) ≡ refused 3 0
  pub eight_listed : building fresh 3 (replicate 24 1) (room 29) ≡ refused 3 0
  -- 18, "with the index of the first such request": slots 1 and 0 again; the output stays
  pub slots_repeated :
      building fresh 3 (request_written 0 1 ++ request_written 1 1 ++ request_written 2 1 ++ request_written 1 2 ++ request_written 0 2) (room 20) ≡ refused 18 3
  pub repeated_stays : built fresh 3 (request_written 0 1 ++ request_written 0 2) (room 20) ≡ room 20
  -- "A block is then at most 532 bytes": 16 references and five requests, with an output of that length and of one byte less
  pub longest_built : building (holding 18) 1 five_written (room 532) ≡ success 532
  pub longest_short : building (holding 18) 1 five_written (room 531) ≡ refused 17 532
  -- the output has the block's length, and one byte less
  pub exact : building fresh 3 (request_written 0 1) (room 8) ≡ success 8
  pub short : building fresh 3 (request_written 0 1) (room 7) ≡ refused 17 8
  -- "Bytes after the block stay", and beside a refusal all bytes of the output stay
  pub stays : built fresh 3 (request_written 0 1) (room 10) ≡ block 3 0 [] (request 0 1 ∷ []) ++ room 2
  pub refused_stays : built fresh 3 (request_written 0 1) (room 7) ≡ room 7
  -- a site without a held block: sequence 0, and references to every block in place order
  pub first_block : next_block everywhere (view_of four) 1 [] ≡ block 1 0 (toy first ∷ toy fork ∷ toy third ∷ toy fourth ∷ []) []
  -- the sequence number is one more than the site's greatest, and its greatest block is the only reference where its blocks refer to all others
  pub next_one : next_block everywhere (view_of four) 3 (request_written 5 7) ≡ block 3 2 (toy fourth ∷ []) (request 5 7 ∷ [])
  -- the site's greatest block first, then what none of its blocks refers to directly: in `four` only place 2 refers to place 1, and here it refers to
  -- nothing
  pub greatest_first : next_block everywhere (view_of (referring four 2 0)) 3 [] ≡ block 3 2 (toy fourth ∷ toy fork ∷ []) []
  -- "one more than its greatest", "its greatest block first", though it is not the site's last place; then what no block of the site refers to
  -- directly, though it is an ancestor, and no other block of the site itself
  pub greatest_not_last : next_block everywhere (view_of returned) 3 [] ≡ block 3 3 (toy (numbered 2) ∷ toy (numbered 0) ∷ []) []
  pub greatest_not_last_built : building returned 3 [] (room 69) ≡ success 69
  -- "up to 16 in all"
  pub sixteen : references_of (next_block everywhere (view_of (holding 18)) 1 []) ≡ list_below (λ i. toy (numbered i)) max_references
  -- of 16 blocks of other sites the first 15 have room beside the site's own greatest block
  pub fifteen_others :
      references_of (next_block everywhere (view_of (changed (holding 17) (row_start 16 + site_offset) 1)) 1 [])
      ≡ toy (numbered 16) ∷ list_below (λ i. toy (numbered i)) 15
