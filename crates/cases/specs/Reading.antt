-- Document 01, "The block", with the limits of request One and the check of request Two: reading at each limit, and where two checks fail.
use Rattle.std.specs.Prelude.{◌≡◌, List, [], ◌∷◌, ◌++◌, map, ℕ, length, take, replicate}
use Rattle.base.specs.Bytes.{Bytes}
use Rattle.base.specs.List.{list_below}
use Rattle.answer.specs.declared.Answer.{Answer}
use Rattle.answer.specs.Checks.{success, refused}
use Rattle.block.specs.Limits.{max_references, max_requests, max_request_list_size, max_block_size}
use Rattle.block.specs.Reading.{reading, read_answer}
use Rattle.block.specs.declared.Request.{Request}
use Rattle.cases.specs.Toy.{toy, request, block}
use Rattle.cases.specs.Blocks.{first, numbered, fully_referring}

-- what reading answers
abbrev pub read : Bytes → Answer
read b = read_answer (reading b)

-- requests of number 1 in these slots
abbrev pub in_slots : List ℕ → List Request
in_slots slots = map (λ slot. request slot 1) slots

pub record ReadingCases : Type 0 where
  -- "Make 5 the limit. A block is then at most 532 bytes, a request list at most 15"
  pub most_requests : max_requests ≡ 5
  pub longest_block : max_block_size ≡ 532
  pub longest_list : max_request_list_size ≡ 15
  -- "p over 16"
  pub most_references : max_references ≡ 16
  -- "block under 5 bytes"
  pub four_bytes : read (replicate 4 0) ≡ refused 3 0
  pub five_bytes : read (replicate 5 0) ≡ success 0
  -- 16 references: with five requests, in 532 bytes; with six; with eight, in 541 bytes
  pub five_requests : (length (fully_referring 5) ≡ 532) × (read (fully_referring 5) ≡ success 0)
  pub six_requests : read (fully_referring 6) ≡ refused 3 0
  pub eight_requests : (length (fully_referring 8) ≡ 541) × (read (fully_referring 8) ≡ refused 3 0)
  -- a byte less than the two counts give, and one more: 533 bytes
  pub byte_less : read (take 531 (fully_referring 5)) ≡ refused 3 0
  pub byte_more : read (fully_referring 5 ++ (0 ∷ [])) ≡ refused 3 0
  -- six requests and no reference; 17 references and no request
  pub six_alone : read (block 0 0 [] (list_below (λ i. request i 1) 6)) ≡ refused 3 0
  pub seventeen_alone : read (block 0 0 (list_below (λ i. toy (numbered i)) 17) []) ≡ refused 3 0
  -- "18, a slot equal to an earlier one in the same block, with the index of the first such request": a request twice; one slot with two numbers, and
  -- with three; the first slot again at the end; two slots again
  pub same_requests : read (block 0 0 [] (in_slots (5 ∷ 5 ∷ []))) ≡ refused 18 1
  pub other_number : read (block 0 0 [] (request 0 1 ∷ request 0 2 ∷ [])) ≡ refused 18 1
  pub thrice_stated : read (block 0 0 [] (request 7 1 ∷ request 7 2 ∷ request 7 3 ∷ [])) ≡ refused 18 1
  pub first_and_last : read (block 0 0 [] (in_slots (7 ∷ 0 ∷ 1 ∷ 2 ∷ 7 ∷ []))) ≡ refused 18 4
  pub two_repeated : read (block 0 0 [] (in_slots (0 ∷ 1 ∷ 2 ∷ 1 ∷ 0 ∷ []))) ≡ refused 18 3
  -- one number in different slots is no cause
  pub one_number : read (block 0 0 [] (in_slots (7 ∷ 0 ∷ 6 ∷ 3 ∷ 1 ∷ []))) ≡ success 0
  -- 6, 18: a slot again at index 1, and number 0 at index 4, then number 1
  pub request_first :
      (read (block 0 0 [] (in_slots (0 ∷ 0 ∷ 1 ∷ 2 ∷ []) ++ (request 3 0 ∷ []))) ≡ refused 6 4)
      × (read (block 0 0 [] (in_slots (0 ∷ 0 ∷ 1 ∷ 2 ∷ 3 ∷ []))) ≡ refused 18 1)
  -- 18, 7: a reference again at index 1, and a slot again at index 4, then another slot
  pub slot_first :
      (read (block 0 0 (toy first ∷ toy first ∷ []) (in_slots (0 ∷ 1 ∷ 2 ∷ 3 ∷ 0 ∷ []))) ≡ refused 18 4)
      × (read (block 0 0 (toy first ∷ toy first ∷ []) (in_slots (0 ∷ 1 ∷ 2 ∷ 3 ∷ 4 ∷ []))) ≡ refused 7 1)
