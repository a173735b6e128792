-- The promise of arrival (crates/arrival, specs/Arrival.antt) on five runs. n 4, and owner 0 requests 42 in slot 0. Three runs meet the premises, and
-- 42 is delivered. The other two runs meet all premises but one, and nothing is delivered. The digest is the toy one.
use Rattle.std.specs.Prelude.{◌≡◌, Bool, true, false, cond, List, [], ◌∷◌, ◌++◌, map, ℕ, ◌+◌, ◌-◌, ◌≤◌, eqb, ltb, get_or}
use Rattle.base.specs.Bytes.{Bytes}
use Rattle.base.specs.Count.{count_below}
use Rattle.base.specs.List.{list_below}
use Rattle.setup.specs.Setup.{faults}
use Rattle.block.specs.Layout.{site_of}
use Rattle.broadcast.specs.Record.{none, with_echo}
use Rattle.records.specs.Layout.{made_offset, part_of}
use Rattle.history.specs.Forks.{forked}
use Rattle.run.specs.Ledger.{Ledger}
use Rattle.run.specs.Run.{Site}
use Rattle.run.specs.Promises.{delivered_entry}
use Rattle.arrival.specs.Full.{Full}
use Rattle.arrival.specs.Arrival.{FirstRequest, InSet, AllInterpreted, Rounds, entry_in, Premises, DeliveredInChain}
use Rattle.cases.specs.Toy.{toy, request, block}
use Rattle.cases.specs.Run.{ledger_left, site_left, Step, ◌making◌, sends, echoes, readies, delivers, readies_and_delivers, arriving, Campaign}
use Rattle.cases.specs.Blocks.{sites, first, later, three_sites, four_sites, echoing, readying, delivering, echoed}
use Rattle.cases.specs.Starred.{thirteen}

-- ---- blocks

-- site 3's first blocks, one for each number: any two are a fork
unfoldable pub branch : ℕ → Bytes
branch v = block 3 0 [] (request 1 v ∷ [])

-- blocks of sites 0 to 2 beside site 3's fork, from the first block's request to delivery. Site 2 refers to a block of the fork, and the others need
-- not
unfoldable pub echoing_beside : ℕ → Bytes
echoing_beside p = cond (eqb p 2) (block 2 0 (toy first ∷ toy (branch 1) ∷ []) []) (echoing p)

unfoldable pub readying_beside : ℕ → Bytes
readying_beside p = block p (later p 1) (map (λ q. toy (echoing_beside q)) three_sites) []

unfoldable pub delivering_beside : ℕ → Bytes
delivering_beside p = block p (later p 2) (map (λ q. toy (readying_beside q)) three_sites) []

-- the owner's first block requests nothing, and its next block 42
unfoldable pub quiet : Bytes
quiet = block 0 0 [] []

unfoldable pub asking_block : Bytes
asking_block = block 0 1 (toy quiet ∷ []) (request 0 42 ∷ [])

-- the three other sites, and their blocks that hear SEND, and that hear three ECHOs
abbrev pub other_sites : List ℕ
other_sites = 1 ∷ 2 ∷ 3 ∷ []

unfoldable pub echoing_after : ℕ → Bytes
echoing_after p = block p 0 (toy quiet ∷ toy asking_block ∷ []) []

unfoldable pub readying_after : ℕ → Bytes
readying_after p = block p 1 (map (λ q. toy (echoing_after q)) other_sites) []

-- the owner's third block, which refers to all of these blocks and requests 43
unfoldable pub asking_again : Bytes
asking_again =
    block 0 2 (toy asking_block ∷ (map (λ q. toy (echoing_after q)) other_sites ++ map (λ q. toy (readying_after q)) other_sites)) (request 0 43 ∷ [])

-- a set of one site fewer than n - f
abbrev pub two_sites : List ℕ
two_sites = 0 ∷ 1 ∷ []

-- site 3's only block, which refers to one block: it is above all others, but hears no message
unfoldable pub newcomer : Bytes
newcomer = block 3 0 (toy (delivering three_sites 0) ∷ []) []

-- ---- what is said of a run

-- all premises but two: how many sites the set has, and that the last block's site is full
pub record AllButTwo (blocks : List Bytes) (A : Bytes) (set : ℕ → Bool) (last : Bytes) : Type 0 where
  pub owner_full : Full toy blocks 0
  pub is_first : FirstRequest (sites 4) blocks 0 42 A
  pub set_full : (p : ℕ) → InSet (sites 4) set p → Full toy blocks p
  pub rounds : Rounds toy (sites 4) blocks A set last

module _ (steps : List Step) where
  abbrev pub ledger : Ledger
  ledger = ledger_left (sites 4) (arriving 0 steps)

  abbrev pub site : Site
  site = site_left (sites 4) (arriving 0 steps)

  -- the last block of the run, and its place
  module _ (last : Bytes) (place : ℕ) where
    -- each block is interpreted and makes what its step says
    pub record Run : Type 0 where
      pub campaign : Campaign (sites 4) 0 steps
      pub all_interpreted : AllInterpreted ledger
      pub last_at : ledger.block place ≡ last

    -- an entry of slot 0 in the last block's meaning, and in the part of its place
    abbrev pub in_meaning : ℕ → ℕ
    in_meaning = entry_in toy (sites 4) ledger.blocks 0 last

    abbrev pub in_part : ℕ → ℕ
    in_part k = get_or (part_of site.records place) k 0

    -- nothing is delivered in the last block or earlier in its chain: entries 3 and 39 are 0
    pub record NothingDelivered : Type 0 where
      pub delivered : in_meaning delivered_entry ≡ 0
      pub made : in_meaning (made_offset + delivered_entry) ≡ 0
      pub delivered_shown : in_part delivered_entry ≡ 0
      pub made_shown : in_part (made_offset + delivered_entry) ≡ 0

    -- the premises hold, and so 42 is delivered
    pub record Arrives (A : Bytes) (set : ℕ → Bool) (forks : List Bool) : Type 0 where
      pub run : Run
      pub forked_sites : list_below (forked ledger.blocks) 4 ≡ forks
      pub premises : Premises toy (sites 4) ledger.blocks 0 42 last
      pub of_request : premises.A ≡ A
      pub of_set : premises.set ≡ set
      pub arrives : DeliveredInChain toy (sites 4) ledger.blocks 0 42 last
      pub shown : in_part delivered_entry ≡ 42

    -- the set has one site fewer than n - f
    pub record OneSiteFewer (A : Bytes) (set : ℕ → Bool) : Type 0 where
      pub run : Run
      pub all_but_two : AllButTwo ledger.blocks A set last
      pub one_fewer : count_below set 4 + 1 ≡ 4 - faults 4
      pub last_full : Full toy ledger.blocks (site_of last)
      pub nothing : NothingDelivered

    -- the last block's site is not full
    pub record LastNotFull (A : Bytes) (set : ℕ → Bool) : Type 0 where
      pub run : Run
      pub all_but_two : AllButTwo ledger.blocks A set last
      pub enough : 4 - faults 4 ≤ count_below set 4
      pub not_full : Full toy ledger.blocks (site_of last) → ⊥
      pub nothing : NothingDelivered

pub record ArrivalCases : Type 0 where
  -- all four sites are the set
  pub all_full : Arrives thirteen (delivering four_sites 3) 12 first (λ p. true) (false ∷ false ∷ false ∷ false ∷ [])
  -- sites 0, 1 and 2 are the set, and site 3 forked
  pub one_forked : Arrives
      (first making sends 42
      ∷ branch 1 making none
      ∷ branch 2 making none
      ∷ echoing_beside 0 making echoes 42
      ∷ echoing_beside 1 making echoes 42
      ∷ echoing_beside 2 making echoes 42
      ∷ readying_beside 0 making readies 42
      ∷ readying_beside 1 making readies 42
      ∷ readying_beside 2 making readies 42
      ∷ delivering_beside 1 making delivers 42
      ∷ [])
      (delivering_beside 1) 9 first (λ p. ltb p 3) (false ∷ false ∷ false ∷ true ∷ [])
  -- sites 1, 2 and 3 are the set. The owner, which is not in it, has the last block; its request is in its second block, and another request comes
  -- later
  pub owner_outside : Arrives
      (quiet making none
      ∷ asking_block making sends 42
      ∷ echoing_after 1 making echoes 42
      ∷ echoing_after 2 making echoes 42
      ∷ echoing_after 3 making echoes 42
      ∷ readying_after 1 making readies 42
      ∷ readying_after 2 making readies 42
      ∷ readying_after 3 making readies 42
      ∷ asking_again making with_echo 42 (readies_and_delivers 42)
      ∷ [])
      asking_again 8 asking_block (λ p. ltb 0 p) (false ∷ false ∷ false ∷ false ∷ [])
  -- sites 0 and 1 are the set, and their two ECHOs are no quorum
  pub one_site_fewer : OneSiteFewer
      (first making sends 42
      ∷ echoing 0 making echoes 42
      ∷ echoing 1 making echoes 42
      ∷ readying two_sites 0 making none
      ∷ readying two_sites 1 making none
      ∷ delivering two_sites 1 making none
      ∷ [])
      (delivering two_sites 1) 5 first (λ p. ltb p 2)
  -- sites 0, 1 and 2 are the set: site 0 delivers, and site 3, whose block is above all others, does not
  pub last_not_full : LastNotFull
      (echoed
      (readying three_sites 0 making readies 42
      ∷ readying three_sites 1 making readies 42
      ∷ readying three_sites 2 making readies 42
      ∷ delivering three_sites 0 making delivers 42
      ∷ newcomer making none
      ∷ []))
      newcomer 8 first (λ p. ltb p 3)
