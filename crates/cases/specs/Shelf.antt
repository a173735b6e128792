-- Request Three: the shelf, its limits, the rule by which a campaign takes a further place, its bytes and its form. The digest is the toy one.
use Rattle.std.specs.Prelude.{◌≡◌, Bool, true, false, List, [], ◌∷◌, ◌++◌, ℕ, ◌+◌, ◌-◌, ◌*◌, take, replicate}
use Rattle.base.specs.Bytes.{Bytes, splice}
use Rattle.base.specs.List.{list_below}
use Rattle.block.specs.Limits.{max_requests}
use Rattle.shelf.specs.Layout.{max_waiting, Waiting, entry_header, entry_size, entry_start, shelf_size, waiting_in, entry_bytes, shelf_bytes}
use Rattle.shelf.specs.Rules.{campaign_count, max_campaign, reserved, max_share, has_place, waits, rules_hold}
use Rattle.shelf.specs.Form.{shelf_in_form, empty_shelf}
use Rattle.campaigns.specs.Arriving.{outcomes_size}
use Rattle.cases.specs.Toy.{toy, request, block}
use Rattle.cases.specs.Blocks.{first, stranger, fully_referring}
use Rattle.cases.specs.Form.{changed}

-- ---- what waits

-- the block b waits for campaign c
infix 70 ◌for◌
abbrev pub ◌for◌ : Bytes → ℕ → Waiting
b for c = record { campaign = c; block = b }

-- blocks of site 2 that refer to a block that never arrives, and differ in the number requested
unfoldable pub lacking_reference : ℕ → Bytes
lacking_reference i = block 2 0 (toy stranger ∷ []) (request 0 (i + 1) ∷ [])

-- a block that is as long as a block can be
abbrev pub longest : Bytes
longest = fully_referring max_requests

-- what waits where k₀ to k₃ of these blocks wait for campaigns 0 to 3
unfoldable pub sharing : ℕ → ℕ → ℕ → ℕ → List Waiting
sharing k₀ k₁ k₂ k₃ =
    list_below (λ i. lacking_reference i for 0) k₀
    ++ (list_below (λ i. lacking_reference i for 1) k₁
    ++ (list_below (λ i. lacking_reference i for 2) k₂
    ++ list_below (λ i. lacking_reference i for 3) k₃))

-- what waits where three blocks wait: the same bytes for campaigns 0 and 3, and the longest block for campaign 0; and the shelf of these three
unfoldable pub three_waiting : List Waiting
three_waiting = lacking_reference 0 for 0 ∷ lacking_reference 0 for 3 ∷ longest for 0 ∷ []

unfoldable pub of_three : Bytes
of_three = shelf_bytes three_waiting

-- ---- cases

pub record LimitCases : Type 0 where
  -- "a shelf of 16 places"
  pub places : max_waiting ≡ 16
  -- "up to four campaigns", "a campaign up to 3"
  pub campaigns : campaign_count ≡ 4
  pub last_campaign : max_campaign ≡ 3
  -- "may always hold 2 places and never more than 10"
  pub always : reserved ≡ 2
  pub most : max_share ≡ 10
  -- 10 is what the other campaigns' 2 places each leave of the 16
  pub left_by_the_others : max_share ≡ max_waiting - reserved * max_campaign
  -- an entry is campaign, length and the longest block's bytes; a shelf is the count and 16 entries
  pub entry_length : entry_size ≡ 3 + 532
  pub shelf_length : shelf_size ≡ 8561
  -- two numbers for each outcome
  pub outcome_numbers : outcomes_size ≡ 20

-- whether each campaign, 0 to 3, has a further place
abbrev pub takers : List Waiting → List Bool
takers ws = list_below (λ c. has_place c ws) 4

abbrev pub all_of_them : List Bool
all_of_them = true ∷ true ∷ true ∷ true ∷ []

abbrev pub none_of_them : List Bool
none_of_them = false ∷ false ∷ false ∷ false ∷ []

-- "It takes a further one exactly when it holds fewer than 10 and the free places then still cover what the others lack of their 2". Where a case
-- has two shelves, campaign 0 may take one place of the first, and the second has one free place fewer.
pub record PlaceCases : Type 0 where
  -- campaign 0 holds no place, 1 place, 2 places
  pub none_held : takers (sharing 0 0 0 0) ≡ all_of_them
  pub one_held : takers (sharing 1 0 0 0) ≡ all_of_them
  pub two_held : takers (sharing 2 0 0 0) ≡ all_of_them
  -- campaign 0 holds 9 places, and 10, beside campaigns that hold none and beside campaigns that hold their 2
  pub tenth : takers (sharing 9 0 0 0) ≡ all_of_them
  pub eleventh : takers (sharing 10 0 0 0) ≡ false ∷ true ∷ true ∷ true ∷ []
  pub tenth_beside_twos : takers (sharing 9 2 2 2) ≡ all_of_them
  pub eleventh_beside_twos : takers (sharing 10 2 2 1) ≡ false ∷ false ∷ false ∷ true ∷ []
  -- two other campaigns hold no place and lack 4 together
  pub others_hold_none :
      (takers (sharing 5 0 0 6) ≡ all_of_them)
      × (takers (sharing 5 0 0 7) ≡ false ∷ true ∷ true ∷ false ∷ [])
  -- two other campaigns hold 1 place each and lack 2 together
  pub others_hold_one :
      (takers (sharing 5 1 1 6) ≡ all_of_them)
      × (takers (sharing 5 1 1 7) ≡ false ∷ true ∷ true ∷ false ∷ [])
  -- all other campaigns hold 2 or more places and lack nothing
  pub others_hold_two :
      (takers (sharing 5 2 2 6) ≡ all_of_them)
      × (takers (sharing 5 2 2 7) ≡ none_of_them)
  -- one other campaign holds no place, one 1, and one more than its 2, which does not make up for what the others lack
  pub others_mixed :
      (takers (sharing 6 0 1 5) ≡ all_of_them)
      × (takers (sharing 6 0 1 6) ≡ false ∷ true ∷ true ∷ false ∷ [])
  -- a campaign's own lack does not count: 2 places are free and campaign 0 lacks 2; then 1 place is free and it lacks 1. It gets a place, as a
  -- campaign that holds fewer than 2 always does on a shelf in form (`covered_two` and `covered_one` say that these are), and the others get none
  pub own_lack :
      (takers (sharing 0 2 6 6) ≡ true ∷ false ∷ false ∷ false ∷ [])
      × (takers (sharing 1 2 6 6) ≡ true ∷ false ∷ false ∷ false ∷ [])
  -- campaign 3's own lack does not count for it either
  pub own_lack_of_the_last :
      (takers (sharing 6 6 2 0) ≡ false ∷ false ∷ false ∷ true ∷ [])
      × (takers (sharing 6 6 2 1) ≡ false ∷ false ∷ false ∷ true ∷ [])
  -- no place is free
  pub full_shelf : takers (sharing 10 2 2 2) ≡ none_of_them

-- "its bytes already wait for that campaign"
pub record SameBytesCases : Type 0 where
  pub they_wait : waits 0 (lacking_reference 1) (sharing 2 1 0 0) ≡ true
  pub for_another : waits 1 (lacking_reference 1) (sharing 2 1 0 0) ≡ false
  pub other_bytes : waits 0 (lacking_reference 2) (sharing 2 1 0 0) ≡ false
  -- the bytes that wait have the block as their beginning, and the other way round
  pub longer_one : waits 0 first ((first ++ (0 ∷ [])) for 0 ∷ []) ≡ false
  pub shorter_one : waits 0 (first ++ (0 ∷ [])) (first for 0 ∷ []) ≡ false

-- The layout of what waits.
pub record ShelfBytesCases : Type 0 where
  -- campaign, length, the block and zeros up to 532 bytes
  pub entry_written : entry_bytes (first for 3) ≡ 3 ∷ 0 ∷ 8 ∷ (first ++ replicate 524 0)
  -- both bytes of a length are written: 532 is 2 * 256 + 20
  pub high_length : entry_bytes (longest for 2) ≡ 2 ∷ 2 ∷ 20 ∷ longest
  -- the count, the entries in the order of arrival, and zeros
  pub entries_in_order :
      of_three ≡ 3 ∷ (entry_bytes (lacking_reference 0 for 0) ++ (entry_bytes (lacking_reference 0 for 3) ++ (entry_bytes (longest for 0) ++ replicate (13 * 535) 0)))
  pub nothing_waits : shelf_bytes [] ≡ empty_shelf
  -- what the bytes show
  pub shown : waiting_in of_three ≡ three_waiting

-- "The shelf is in form if ..": each condition is broken alone where that can be, in the bytes of the shelf of three or in a list of what waits.
pub record ShelfFormCases : Type 0 where
  pub shelf_formed : shelf_in_form of_three ≡ true
  pub empty_formed : shelf_in_form empty_shelf ≡ true
  -- the buffer is one byte shorter than a shelf, one byte longer, or empty
  pub shelf_shorter : shelf_in_form (take (shelf_size - 1) of_three) ≡ false
  pub shelf_longer : shelf_in_form (of_three ++ (0 ∷ [])) ≡ false
  pub no_bytes : shelf_in_form [] ≡ false
  -- "16 places": all are taken, and one block more waits; a count of 17
  pub sixteen_wait : rules_hold (sharing 10 2 2 2) ≡ true
  pub seventeen_wait : rules_hold (sharing 10 3 2 2) ≡ false
  pub count_seventeen : shelf_in_form (changed (shelf_bytes (sharing 10 2 2 2)) 0 17) ≡ false
  -- a count of one more than wait, and of one fewer
  pub count_more : shelf_in_form (changed of_three 0 4) ≡ false
  pub count_less : shelf_in_form (changed of_three 0 2) ≡ false
  -- "for a campaign up to 3"
  pub campaign_three : rules_hold (first for 3 ∷ []) ≡ true
  pub campaign_four : rules_hold (first for 4 ∷ []) ≡ false
  pub byte_four : shelf_in_form (changed of_three (entry_start 1) 4) ≡ false
  -- "one that the reader accepts": the first block requests slot 7; it requests slot 8, for which the reader has 6
  pub readable : shelf_in_form (changed of_three (entry_start 0 + entry_header + 37) 7) ≡ true
  pub unreadable : shelf_in_form (changed of_three (entry_start 0 + entry_header + 37) 8) ≡ false
  -- blocks for which the reader has 3, 18 and 7: one byte is missing; a slot is repeated; a reference is repeated
  pub misshapen : rules_hold (take 7 first for 0 ∷ []) ≡ false
  pub repeated_slot : rules_hold (block 2 0 [] (request 0 1 ∷ request 0 2 ∷ []) for 0 ∷ []) ≡ false
  pub repeated_reference : rules_hold (block 2 0 (toy first ∷ toy first ∷ []) [] for 0 ∷ []) ≡ false
  -- a length over 532; a block of six requests, for which the reader has 3
  pub length_over : shelf_in_form (splice of_three (entry_start 2 + 1) (2 ∷ 21 ∷ [])) ≡ false
  pub six_requests_wait : rules_hold (block 2 0 [] (list_below (λ i. request i 1) 6) for 0 ∷ []) ≡ false
  -- a byte behind a block is not 0: the first byte, and the last byte of its entry
  pub first_behind_block : shelf_in_form (changed of_three (entry_start 0 + entry_header + 40) 1) ≡ false
  pub last_behind_block : shelf_in_form (changed of_three (entry_start 1 - 1) 1) ≡ false
  -- a byte behind the last entry is not 0: the first byte, and the last byte of the shelf
  pub first_behind_entries : shelf_in_form (changed of_three (entry_start 3) 1) ≡ false
  pub last_behind_entries : shelf_in_form (changed of_three (shelf_size - 1) 1) ≡ false
  -- "no campaign has the same bytes waiting twice": the second block of the shelf of three, which waits for campaign 3, waits for campaign 2; for
  -- campaign 0
  pub same_for_another : shelf_in_form (changed of_three (entry_start 1) 2) ≡ true
  pub same_twice : shelf_in_form (changed of_three (entry_start 1) 0) ≡ false
  -- the same bytes wait twice for a campaign, with others between them
  pub same_twice_apart : rules_hold (lacking_reference 0 for 1 ∷ lacking_reference 1 for 1 ∷ lacking_reference 0 for 2 ∷ lacking_reference 0 for 1 ∷ []) ≡ false
  -- "or holds more than 10 places"
  pub ten_held : rules_hold (sharing 2 10 2 2) ≡ true
  pub eleven_held : rules_hold (sharing 0 11 0 0) ≡ false
  -- "the free places cover what the campaigns lack of their 2": one campaign lacks 1, one lacks 2, two lack 1 each, and just so many places are free;
  -- then one campaign lacks 2, or two lack 1 each, and one place fewer is free
  pub covered_one : rules_hold (sharing 1 2 6 6) ≡ true
  pub covered_two : rules_hold (sharing 0 2 6 6) ≡ true
  pub covered_each : rules_hold (sharing 6 1 6 1) ≡ true
  pub short_of_one : rules_hold (sharing 0 3 6 6) ≡ false
  pub short_of_each : rules_hold (sharing 7 1 6 1) ≡ false
  -- whether a block lacks a reference, or has a site below n, is no question of form
  pub lacks_nothing : rules_hold (first for 0 ∷ []) ≡ true
  pub any_site : rules_hold (block 255 0 [] [] for 0 ∷ []) ≡ true
