-- Document 01, "One slot's process": "A record is 40 numbers of 16 bits", and "Interpreting a place": "place after place, slot after slot". The
-- numbers that campaigns leave are written out, and no size is taken from a definition. The digest is the toy one.
use Rattle.std.specs.Prelude.{◌≡◌, List, [], ◌∷◌, ◌++◌, map, ℕ, ◌*◌, take, drop, replicate}
use Rattle.base.specs.Bytes.{Bytes}
use Rattle.setup.specs.Setup.{Setup}
use Rattle.broadcast.specs.Record.{none}
use Rattle.records.specs.Layout.{record_size, part_size, buffer_size}
use Rattle.cases.specs.Toy.{toy, request, block}
use Rattle.cases.specs.Run.{site_left, Step, ◌making◌, sends, echoes, readies, delivers, arriving}
use Rattle.cases.specs.Blocks.{sites, first, fork, third, three_sites, echoing, readying, echoed}
use Rattle.cases.specs.Starred.{chained}
use Rattle.cases.specs.Traps.{other_echoing, other_readying, shared_out}

-- the 40 numbers of a slot among the 320 of a place
abbrev pub numbers_at : List ℕ → ℕ → ℕ → List ℕ
numbers_at records place slot = take 40 (drop (40 * slot) (take 320 (drop (320 * place) records)))

-- after these blocks arrived and were interpreted, the record of a slot at a place has these numbers
pub record Numbers (s : Setup) (steps : List Step) (place slot : ℕ) (numbers : List ℕ) : Type 0 where
  pub written : numbers_at (site_left s (arriving 0 steps)).records place slot ≡ numbers

-- a list of numbers with n zeros behind it
abbrev pub filled : List ℕ → ℕ → List ℕ
filled numbers n = numbers ++ replicate n 0

-- the numbers of a record: entries 0 to 3, 4 to 19, 20 to 35, 36 to 39
abbrev pub numbers_written : List ℕ → List ℕ → List ℕ → List ℕ → List ℕ
numbers_written sent echoes_heard readies_heard made = sent ++ (echoes_heard ++ (readies_heard ++ made))

-- nothing heard from any of the 16 sites
abbrev pub silence : List ℕ
silence = replicate 16 0

-- ---- campaigns

-- document 01's chain of four blocks
unfoldable pub chain_of_four : List Step
chain_of_four = chained 0 making sends 7 ∷ chained 1 making echoes 7 ∷ chained 2 making readies 7 ∷ chained 3 making delivers 7 ∷ []

-- n 4: a block of site 3, which has sent ECHO 43, that hears ECHO 42 of three sites, its own ECHO, READY 43 of site 1 and READY 42 of site 2
unfoldable pub hears_all : Bytes
hears_all = block 3 1 (toy third ∷ toy (readying three_sites 2) ∷ toy (other_readying 1) ∷ map (λ p. toy (echoing p)) three_sites) []

unfoldable pub mixed : List Step
mixed =
    echoed
    (readying three_sites 2 making readies 42
    ∷ fork making sends 43
    ∷ other_echoing 0 making echoes 43
    ∷ other_echoing 1 making echoes 43
    ∷ other_echoing 2 making echoes 43
    ∷ other_readying 1 making readies 43
    ∷ third making echoes 43
    ∷ hears_all making readies 42
    ∷ [])

-- n 4: site 1, which owns slots 1 and 5, requests 45 in slot 5
unfoldable pub in_slot_five : List Step
in_slot_five = first making none ∷ block 1 0 [] (request 5 45 ∷ []) making sends 45 ∷ []

pub record RecordCases : Type 0 where
  -- "A record is 40 numbers", "the 320 numbers that belong to that place", "one lent buffer of 20,480 numbers"
  pub record_numbers : record_size ≡ 40
  pub place_numbers : part_size ≡ 320
  pub buffer_numbers : buffer_size ≡ 20480
  -- "0 SEND sent so far, 1 ECHO sent, 2 READY sent, 3 delivered", "36 to 39 the SEND, ECHO, READY and delivery made in this block"
  pub send_made : Numbers (sites 1) chain_of_four 0 0 (numbers_written (7 ∷ 0 ∷ 0 ∷ 0 ∷ []) silence silence (7 ∷ 0 ∷ 0 ∷ 0 ∷ []))
  pub echo_made : Numbers (sites 1) chain_of_four 1 0 (numbers_written (7 ∷ 7 ∷ 0 ∷ 0 ∷ []) silence silence (0 ∷ 7 ∷ 0 ∷ 0 ∷ []))
  pub ready_made : Numbers (sites 1) chain_of_four 2 0 (numbers_written (7 ∷ 7 ∷ 7 ∷ 0 ∷ []) (filled (7 ∷ []) 15) silence (0 ∷ 0 ∷ 7 ∷ 0 ∷ []))
  pub delivery_made : Numbers (sites 1) chain_of_four 3 0 (numbers_written (7 ∷ 7 ∷ 7 ∷ 7 ∷ []) (filled (7 ∷ []) 15) (filled (7 ∷ []) 15) (0 ∷ 0 ∷ 0 ∷ 7 ∷ []))
  -- "4 to 19 ECHO heard from each site, 20 to 35 READY heard from each site"
  pub heard_from_each : Numbers (sites 4) mixed 11 0
      (0 ∷ 43 ∷ 42 ∷ 0
      ∷ 42 ∷ 42 ∷ 42 ∷ 43 ∷ 0 ∷ 0 ∷ 0 ∷ 0 ∷ 0 ∷ 0 ∷ 0 ∷ 0 ∷ 0 ∷ 0 ∷ 0 ∷ 0
      ∷ 0 ∷ 43 ∷ 42 ∷ 0 ∷ 0 ∷ 0 ∷ 0 ∷ 0 ∷ 0 ∷ 0 ∷ 0 ∷ 0 ∷ 0 ∷ 0 ∷ 0 ∷ 0
      ∷ 0 ∷ 0 ∷ 42 ∷ 0
      ∷ [])
  -- "place after place, slot after slot": the number stands in slot 5 of place 1, and slot 1 of that place is all 0
  pub slot_five : Numbers shared_out in_slot_five 1 5 (numbers_written (45 ∷ 0 ∷ 0 ∷ 0 ∷ []) silence silence (45 ∷ 0 ∷ 0 ∷ 0 ∷ []))
  pub slot_one : Numbers shared_out in_slot_five 1 1 (replicate 40 0)
