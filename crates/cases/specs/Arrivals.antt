-- Request Three: arrivals, the order of their checks, and which blocks wait, are let in or are dropped. Rows about the first checks are over the
-- bytes of a shelf, most others over the list of what waits. The digest is the toy one.
use Rattle.std.specs.Prelude.{◌≡◌, List, [], ◌∷◌, ◌++◌, map, ℕ, ◌+◌, ◌-◌, replicate}
use Rattle.base.specs.Bytes.{Bytes}
use Rattle.base.specs.List.{list_below}
use Rattle.answer.specs.Buffer.{put_answers}
use Rattle.answer.specs.declared.Answer.{Answer}
use Rattle.answer.specs.Checks.{success, refused}
use Rattle.shelf.specs.Layout.{Waiting, shelf_size, shelf_bytes}
use Rattle.shelf.specs.Rules.{has_place}
use Rattle.shelf.specs.Form.{empty_shelf}
use Rattle.admission.specs.Admission.{admission}
use Rattle.campaigns.specs.Passes.{Try, outcomes_of}
use Rattle.campaigns.specs.Arriving.{Arrived, Called, arrived, arrival}
use Rattle.cases.specs.Toy.{toy, request, block}
use Rattle.cases.specs.Run.{good, placed, table_after}
use Rattle.cases.specs.Blocks.{fresh, unlawful, fork, stranger, numbered, holding}
use Rattle.cases.specs.Form.{changed}
use Rattle.cases.specs.Starred.{chained}
use Rattle.cases.specs.Shelf.{◌for◌, lacking_reference, longest, sharing, of_three, takers, all_of_them, none_of_them}

-- ---- blocks

-- a block of site p that refers to the chain's first block
unfoldable pub beside : ℕ → Bytes
beside p = block p 0 (toy (chained 0) ∷ []) []

-- a block of site 1 that refers to the chain's first block and to a block that never arrives
unfoldable pub partly : Bytes
partly = block 1 0 (toy (chained 0) ∷ toy stranger ∷ []) []

-- blocks of sequence 2 that refer to a block of sequence 0 and so have no parent; they differ in the number requested
unfoldable pub orphan : ℕ → Bytes
orphan i = block 0 2 (toy (chained 0) ∷ []) (request 0 (i + 1) ∷ [])

-- a block that refers to the last of the 64 blocks of a full table
unfoldable pub after_last : Bytes
after_last = block 1 0 (toy (numbered 63) ∷ []) []

-- ---- tables, shelves and what is left

-- the table that holds these blocks, and the table that holds the first k blocks of the chain
unfoldable pub table_of : List Bytes → Bytes
table_of bs = table_after toy fresh (map good bs)

unfoldable pub chain_block : ℕ → Bytes
chain_block k = table_of (list_below chained k)

-- a shelf whose last byte is not 0
unfoldable pub damaged : Bytes
damaged = changed empty_shelf (shelf_size - 1) 1

-- what the arrival of block b for campaign c leaves, where ws wait
abbrev pub arrives : Bytes → List Waiting → ℕ → Bytes → ℕ → Arrived
arrives t ws c b verdict = arrived toy (has_place c ws) t ws c b verdict

-- what an arrival leaves: the answer, the table and what waits afterwards, and the tries
abbrev pub leaving : Answer → Bytes → List Waiting → List Try → Arrived
leaving a t ws ys = record { answer = a; table = t; waiting = ws; tries = ys }

-- what a call leaves: the answer, the table and the shelf's bytes afterwards, and the tries
abbrev pub calling : Answer → Bytes → Bytes → List Try → Called
calling a t s ys = record { answer = a; table = t; shelf = s; tries = ys }

-- a try: the waiting block b got this answer
infix 70 ◌getting◌
abbrev pub ◌getting◌ : Bytes → Answer → Try
b getting a = record { block = b; answer = a }

-- 9: reference not held, with the index of the first such reference
abbrev pub lacks : ℕ → Answer
lacks index = refused 9 index

-- a list of what waits: when the chain's first block arrives, two of these blocks are let in, one is dropped, and two wait on
abbrev pub mixture : List Waiting
mixture = partly for 0 ∷ chained 2 for 0 ∷ orphan 0 for 0 ∷ lacking_reference 0 for 0 ∷ chained 1 for 0 ∷ []

-- a list of 16 that wait, of which b is the first
abbrev pub full_with : Bytes → List Waiting
full_with b = b for 0 ∷ sharing 2 2 5 6

-- ---- cases

abbrev pub no_block : Bytes
no_block = 0 ∷ 0 ∷ 0 ∷ 0 ∷ []

-- The checks of an arrival: 21, 17, 2, then admission's. A row for each two neighbours. The first call has both causes and gets the earlier number;
-- in the second only the earlier cause is mended, and it gets the later number. No refusal here changes anything.
pub record ArrivalOrderCases : Type 0 where
  -- "21, campaign above 3, checked first": every later check fails too
  pub twenty_one_first : arrival toy [] [] 4 [] 0 0 ≡ calling (refused 21 0) [] [] []
  -- 21, 17: room for 19 numbers, for campaign 4, then for campaign 3
  pub campaign_before_room :
      (arrival toy fresh empty_shelf 4 (chained 0) 1 19 ≡ calling (refused 21 0) fresh empty_shelf [])
      × (arrival toy fresh empty_shelf 3 (chained 0) 1 19 ≡ calling (refused 17 20) fresh empty_shelf [])
  -- 17, 2: a shelf that is not in form, with room for 19 numbers, then for 20
  pub room_before_shelf :
      (arrival toy fresh damaged 0 (chained 0) 1 19 ≡ calling (refused 17 20) fresh damaged [])
      × (arrival toy fresh damaged 0 (chained 0) 1 20 ≡ calling (refused 2 0) fresh damaged [])
  -- 2, 3: four bytes, with a shelf that is not in form, then with a shelf that is
  pub shelf_before_block :
      (arrival toy fresh damaged 0 no_block 1 20 ≡ calling (refused 2 0) fresh damaged [])
      × (arrival toy fresh empty_shelf 0 no_block 1 20 ≡ calling (refused 3 0) fresh empty_shelf [])
  -- 2, 3: four bytes, with a table that is not in form; with a table that is, the row above has 3
  pub table_before_block : arrival toy unlawful empty_shelf 0 no_block 1 20 ≡ calling (refused 2 0) unlawful empty_shelf []
  -- room for 20 numbers is enough, and so is room for more
  pub enough_room : arrival toy fresh empty_shelf 3 (chained 0) 1 20 ≡ calling (placed 0) (chain_block 1) empty_shelf []
  pub more_room : arrival toy fresh empty_shelf 0 (chained 0) 1 21 ≡ calling (placed 0) (chain_block 1) empty_shelf []

-- "where an arrival would get 9". `partly` lacks its second reference in a table that holds its first: 9 with index 1.
pub record MissingCases : Type 0 where
  -- "still answered 9 and waits, with its bytes": behind all others, and with the index
  pub waits_behind :
      arrives (chain_block 1) (sharing 1 1 0 0) 0 partly 1
      ≡ leaving (lacks 1) (chain_block 1) (lacking_reference 0 for 0 ∷ lacking_reference 0 for 1 ∷ partly for 0 ∷ []) []
  -- over the shelf's bytes: an arrival that is answered 9 waits behind all others
  pub waits_in_bytes :
      arrival toy (chain_block 1) of_three 1 partly 1 20
      ≡ calling (lacks 1) (chain_block 1) (shelf_bytes (lacking_reference 0 for 0 ∷ lacking_reference 0 for 3 ∷ longest for 0 ∷ partly for 1 ∷ [])) []
  -- a block that states a slot twice and lacks a reference would not get 9: it gets 18, and does not wait
  pub slot_twice :
      arrives fresh [] 0 (block 2 0 (toy stranger ∷ []) (request 0 1 ∷ request 0 2 ∷ [])) 1 ≡ leaving (refused 18 1) fresh [] []
  -- "instead of it 20, its bytes already wait for that campaign", with 0 beside it
  pub waits_already :
      arrives (chain_block 1) (lacking_reference 0 for 0 ∷ partly for 0 ∷ []) 0 partly 1
      ≡ leaving (refused 20 0) (chain_block 1) (lacking_reference 0 for 0 ∷ partly for 0 ∷ []) []
  pub waits_already_in_bytes : arrival toy fresh of_three 3 (lacking_reference 0) 1 20 ≡ calling (refused 20 0) fresh of_three []
  -- the block's bytes wait for another campaign alone: it is answered 9 and waits
  pub waits_for_another :
      arrives (chain_block 1) (lacking_reference 0 for 0 ∷ partly for 1 ∷ []) 0 partly 1
      ≡ leaving (lacks 1) (chain_block 1) (lacking_reference 0 for 0 ∷ partly for 1 ∷ partly for 0 ∷ []) []
  -- "else 19, no place by the shelf rule", with 0 beside it: the campaign holds 10 places; no place is free; the free places are what another
  -- campaign lacks of its 2
  pub no_eleventh :
      arrives (chain_block 1) (sharing 10 0 0 0) 0 partly 1
      ≡ leaving (refused 19 0) (chain_block 1) (sharing 10 0 0 0) []
  pub none_free :
      arrives (chain_block 1) (sharing 5 2 2 7) 0 partly 1
      ≡ leaving (refused 19 0) (chain_block 1) (sharing 5 2 2 7) []
  pub lacked_by_another :
      arrives (chain_block 1) (sharing 6 0 2 6) 0 partly 1
      ≡ leaving (refused 19 0) (chain_block 1) (sharing 6 0 2 6) []
  -- on that shelf a block of the campaign that holds fewer than 2 places gets 9
  pub below_two :
      arrives (chain_block 1) (sharing 6 0 2 6) 1 partly 1
      ≡ leaving (lacks 1) (chain_block 1) (sharing 6 0 2 6 ++ (partly for 1 ∷ [])) []
  -- over the shelf's bytes: 19, and 9 for the campaign that holds fewer than 2 places
  pub rule_in_bytes :
      (arrival toy (chain_block 1) (shelf_bytes (sharing 6 0 2 6)) 3 partly 1 20 ≡ calling (refused 19 0) (chain_block 1) (shelf_bytes (sharing 6 0 2 6)) [])
      × (arrival toy (chain_block 1) (shelf_bytes (sharing 6 0 2 6)) 1 partly 1 20
      ≡ calling (lacks 1) (chain_block 1) (shelf_bytes (sharing 6 0 2 6 ++ (partly for 1 ∷ []))) [])
  -- 20, 19: the block's bytes wait for the campaign, and no place is free
  pub same_before_no_place :
      arrives (chain_block 1) (sharing 5 2 2 6 ++ (partly for 0 ∷ [])) 0 partly 1
      ≡ leaving (refused 20 0) (chain_block 1) (sharing 5 2 2 6 ++ (partly for 0 ∷ [])) []
  -- 5, 9: a block with verdict 0 does not wait
  pub verdict_before :
      arrives (chain_block 1) [] 0 partly 0 ≡ leaving (refused 5 0) (chain_block 1) [] []
  -- 5, 20, 19: with verdict 0 a block gets 5, though its bytes wait and no place is free
  pub verdict_before_same :
      arrives fresh (sharing 10 2 2 2) 0 (lacking_reference 0) 0 ≡ leaving (refused 5 0) fresh (sharing 10 2 2 2) []
  -- 8, 9: a held block has the digest of the block that arrives
  pub held_before :
      arrives (table_of (chained 0 ∷ fork ∷ block 1 0 (toy (chained 0) ∷ toy fork ∷ []) [] ∷ [])) [] 0 partly 1
      ≡ leaving (refused 8 2) (table_of (chained 0 ∷ fork ∷ block 1 0 (toy (chained 0) ∷ toy fork ∷ []) [] ∷ [])) [] []
  -- 9, 11: a block waits though the table is full
  pub full_table : arrives (holding 64) [] 0 (lacking_reference 0) 1 ≡ leaving (lacks 0) (holding 64) (lacking_reference 0 for 0 ∷ []) []

-- "After each admission of an arrival the campaign's waiting blocks are tried in passes, in the order they came, until a pass admits none; one refused
-- by another number than 9 is dropped".
pub record PassCases : Type 0 where
  -- one block is let in
  pub one_let_in :
      arrives fresh (chained 1 for 0 ∷ []) 0 (chained 0) 1
      ≡ leaving (placed 0) (chain_block 2) [] (chained 1 getting placed 1 ∷ [])
  -- a chain waits in its order, behind a block that waits on: each block of the chain is let in after the one before it, in the same pass
  pub chain_in_order :
      arrives fresh (lacking_reference 0 for 0 ∷ chained 1 for 0 ∷ chained 2 for 0 ∷ chained 3 for 0 ∷ []) 0 (chained 0) 1
      ≡ leaving (placed 0) (chain_block 4) (lacking_reference 0 for 0 ∷ [])
      (lacking_reference 0 getting lacks 0
      ∷ chained 1 getting placed 1
      ∷ chained 2 getting placed 2
      ∷ chained 3 getting placed 3
      ∷ lacking_reference 0 getting lacks 0
      ∷ [])
  -- a chain waits in reverse order: three passes let in one block each
  pub chain_reversed :
      arrives fresh (chained 3 for 0 ∷ chained 2 for 0 ∷ chained 1 for 0 ∷ []) 0 (chained 0) 1
      ≡ leaving (placed 0) (chain_block 4) []
      (chained 3 getting lacks 0
      ∷ chained 2 getting lacks 0
      ∷ chained 1 getting placed 1
      ∷ chained 3 getting lacks 0
      ∷ chained 2 getting placed 2
      ∷ chained 3 getting placed 3
      ∷ [])
  -- "in the order they came", whatever their sites are: the block that came first gets the lowest place
  pub oldest_first :
      arrives fresh (beside 2 for 0 ∷ beside 3 for 0 ∷ beside 1 for 0 ∷ []) 0 (chained 0) 1
      ≡ leaving (placed 0) (table_of (chained 0 ∷ beside 2 ∷ beside 3 ∷ beside 1 ∷ [])) []
      (beside 2 getting placed 1 ∷ beside 3 getting placed 2 ∷ beside 1 getting placed 3 ∷ [])
  -- a pass that lets a block in is followed by another pass, also if that one lets none in
  pub one_more_pass :
      arrives fresh (lacking_reference 0 for 0 ∷ chained 1 for 0 ∷ []) 0 (chained 0) 1
      ≡ leaving (placed 0) (chain_block 2) (lacking_reference 0 for 0 ∷ [])
      (lacking_reference 0 getting lacks 0 ∷ chained 1 getting placed 1 ∷ lacking_reference 0 getting lacks 0 ∷ [])
  -- a pass that only drops blocks is the last
  pub only_drops :
      arrives fresh (lacking_reference 0 for 0 ∷ orphan 0 for 0 ∷ []) 0 (chained 0) 1
      ≡ leaving (placed 0) (chain_block 1) (lacking_reference 0 for 0 ∷ [])
      (lacking_reference 0 getting lacks 0 ∷ orphan 0 getting refused 10 0 ∷ [])
  -- a pass that neither lets a block in nor drops one is the last
  pub nothing_ends :
      arrives fresh (lacking_reference 0 for 0 ∷ partly for 0 ∷ []) 0 (chained 0) 1
      ≡ leaving (placed 0) (chain_block 1) (lacking_reference 0 for 0 ∷ partly for 0 ∷ [])
      (lacking_reference 0 getting lacks 0 ∷ partly getting lacks 1 ∷ [])
  -- a block that was dropped is not tried again, and what waits on keeps its order
  pub mixed_passes :
      arrives fresh mixture 0 (chained 0) 1
      ≡ leaving (placed 0) (chain_block 3) (partly for 0 ∷ lacking_reference 0 for 0 ∷ [])
      (partly getting lacks 1
      ∷ chained 2 getting lacks 0
      ∷ orphan 0 getting refused 10 0
      ∷ lacking_reference 0 getting lacks 0
      ∷ chained 1 getting placed 1
      ∷ partly getting lacks 1
      ∷ chained 2 getting placed 2
      ∷ lacking_reference 0 getting lacks 0
      ∷ partly getting lacks 1
      ∷ lacking_reference 0 getting lacks 0
      ∷ [])
  -- dropped by 8: the block waits though it could be admitted, arrives once more, and is admitted
  pub dropped_by8 :
      arrives (chain_block 1) (chained 1 for 0 ∷ []) 0 (chained 1) 1
      ≡ leaving (placed 1) (chain_block 2) [] (chained 1 getting refused 8 1 ∷ [])
  -- dropped by 10: the block has no parent
  pub dropped_by10 :
      arrives fresh (orphan 0 for 0 ∷ []) 0 (chained 0) 1 ≡ leaving (placed 0) (chain_block 1) [] (orphan 0 getting refused 10 0 ∷ [])
  -- dropped by 11: the block refers to the 64th block, with which the table is full
  pub dropped_by11 :
      arrives (holding 63) (after_last for 0 ∷ []) 0 (numbered 63) 1 ≡ leaving (placed 63) (holding 64) [] (after_last getting refused 11 0 ∷ [])
  -- dropped by 4: no arrival leaves a block of site 4 on the shelf, but the form of a shelf does not ask for the site
  pub dropped_by4 :
      arrives fresh (beside 4 for 0 ∷ []) 0 (chained 0) 1 ≡ leaving (placed 0) (chain_block 1) [] (beside 4 getting refused 4 0 ∷ [])
  -- blocks that wait for other campaigns are not tried, and stay in their order, though they have the same bytes
  pub other_campaigns :
      arrives fresh (chained 1 for 1 ∷ chained 1 for 0 ∷ chained 1 for 3 ∷ []) 0 (chained 0) 1
      ≡ leaving (placed 0) (chain_block 2) (chained 1 for 1 ∷ chained 1 for 3 ∷ []) (chained 1 getting placed 1 ∷ [])
  -- after a refusal no waiting block is tried, though one could be admitted: the refusal is 8, and 9
  pub after_refusal :
      arrives (chain_block 1) (chained 1 for 0 ∷ []) 0 (chained 0) 1
      ≡ leaving (refused 8 0) (chain_block 1) (chained 1 for 0 ∷ []) []
  pub after_missing :
      arrives (chain_block 1) (chained 1 for 0 ∷ []) 0 partly 1
      ≡ leaving (lacks 1) (chain_block 1) (chained 1 for 0 ∷ partly for 0 ∷ []) []
  -- after an admission a waiting block is tried, also if it does not refer to the block that was admitted
  pub after_another :
      arrives (chain_block 1) (chained 1 for 0 ∷ []) 0 fork 1
      ≡ leaving (placed 1) (table_of (chained 0 ∷ fork ∷ chained 1 ∷ [])) [] (chained 1 getting placed 2 ∷ [])
  -- over the shelf's bytes, an arrival for campaign 2: two blocks are let in, one waits on, and what waits for another campaign stays
  pub passes_in_bytes :
      arrival toy fresh (shelf_bytes (lacking_reference 0 for 0 ∷ chained 2 for 2 ∷ chained 1 for 2 ∷ partly for 2 ∷ [])) 2 (chained 0) 1 20
      ≡ calling (placed 0) (chain_block 3) (shelf_bytes (lacking_reference 0 for 0 ∷ partly for 2 ∷ []))
      (chained 2 getting lacks 0
      ∷ chained 1 getting placed 1
      ∷ partly getting lacks 1
      ∷ chained 2 getting placed 2
      ∷ partly getting lacks 1
      ∷ partly getting lacks 1
      ∷ [])
  -- over the shelf's bytes: a refusal by admission leaves them
  pub refused_in_bytes :
      arrival toy (chain_block 1) of_three 0 (chained 0) 1 20 ≡ calling (refused 8 0) (chain_block 1) of_three []

-- "The answer lists, in the order tried, the place of each block let in and the number of each dropped".
pub record OutcomeCases : Type 0 where
  -- a block that was dropped is listed before the blocks that were let in after it, and blocks that wait on are not listed
  pub outcomes_listed : outcomes_of (arrives fresh mixture 0 (chained 0) 1).tries ≡ refused 10 0 ∷ success 1 ∷ success 2 ∷ []
  -- beside the number of a block that was dropped stands 0, also beside 8, which has a place as its value otherwise
  pub number_alone : outcomes_of (chained 1 getting refused 8 1 ∷ []) ≡ refused 8 0 ∷ []
  -- all 10 blocks that a campaign may have waiting are dropped
  pub ten_outcomes :
      outcomes_of (arrives fresh (list_below (λ i. orphan i for 0) 10 ++ (orphan 0 for 1 ∷ [])) 0 (chained 0) 1).tries ≡ replicate 10 (refused 10 0)
  -- the buffer gets two numbers for each outcome, and its other numbers stay
  pub outcomes_in_buffer : put_answers (replicate 20 7) 0 (outcomes_of (arrives fresh mixture 0 (chained 0) 1).tries) ≡ 10 ∷ 0 ∷ 0 ∷ 1 ∷ 0 ∷ 2 ∷ replicate 14 7

-- What an arrival leaves to the next.
pub record ArrivalLeftCases : Type 0 where
  -- each block that waits on for the campaign gets 9 from the table that is left, with the index of its missing reference
  pub still_lacking :
      map (λ w. admission toy (arrives fresh mixture 0 (chained 0) 1).table w.block 1) (arrives fresh mixture 0 (chained 0) 1).waiting
      ≡ lacks 1 ∷ lacks 0 ∷ []
  -- "A place is free again once its block is let in or dropped": no campaign gets a further place, and afterwards all do
  pub free_by_letting_in :
      (takers (full_with (chained 1)) ≡ none_of_them)
      × (takers (arrives fresh (full_with (chained 1)) 0 (chained 0) 1).waiting ≡ all_of_them)
  pub free_by_dropping :
      (takers (full_with (orphan 0)) ≡ none_of_them)
      × (takers (arrives fresh (full_with (orphan 0)) 0 (chained 0) 1).waiting ≡ all_of_them)
