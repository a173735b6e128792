-- Document 01, "Small skies to try": the nine cases that are marked *, in their order. The digest is the toy one.
use Rattle.std.specs.Prelude.{◌≡◌, List, [], ◌∷◌, ℕ, zero, suc}
use Rattle.base.specs.Bytes.{Bytes}
use Rattle.answer.specs.Checks.{refused}
use Rattle.broadcast.specs.Record.{none}
use Rattle.run.specs.Ledger.Call.{interpret}
use Rattle.cases.specs.Toy.{toy, request, block}
use Rattle.cases.specs.Run.{good, placed, answers, Campaign, Step, ◌making◌, sends, echoes, readies, delivers}
use Rattle.cases.specs.Blocks.{sites, fresh, first, fork, both, three_sites, four_sites, echoing, readying, delivering}

-- block k of a chain of site 0: each block refers to the one before, and the first requests 7 in slot 0
unfoldable pub chained : ℕ → Bytes
chained zero = block 0 0 [] (request 0 7 ∷ [])
chained (suc k) = block 0 (suc k) (toy (chained k) ∷ []) []

-- a block of site 3 that hears the ECHOs of two sites
unfoldable pub two_echoes : Bytes
two_echoes = block 3 0 (toy (echoing 0) ∷ toy (echoing 1) ∷ []) []

-- a block of site 3 that hears the READYs of two sites, and its next, which hears the READY of a third site
unfoldable pub two_readies : Bytes
two_readies = block 3 0 (toy (readying three_sites 0) ∷ toy (readying three_sites 1) ∷ []) []

unfoldable pub third_ready : Bytes
third_ready = block 3 1 (toy two_readies ∷ toy (readying three_sites 2) ∷ []) []

-- the 13 blocks by which all four sites go from the first block's request to delivery
unfoldable pub thirteen : List Step
thirteen =
    first making sends 42
    ∷ echoing 0 making echoes 42
    ∷ echoing 1 making echoes 42
    ∷ echoing 2 making echoes 42
    ∷ echoing 3 making echoes 42
    ∷ readying four_sites 0 making readies 42
    ∷ readying four_sites 1 making readies 42
    ∷ readying four_sites 2 making readies 42
    ∷ readying four_sites 3 making readies 42
    ∷ delivering four_sites 0 making delivers 42
    ∷ delivering four_sites 1 making delivers 42
    ∷ delivering four_sites 2 making delivers 42
    ∷ delivering four_sites 3 making delivers 42
    ∷ []

pub record StarredCases : Type 0 where
  -- "Empty table, interpret place 0: 13"
  pub nothing_held : answers toy fresh (interpret 0 ∷ []) ≡ refused 13 0 ∷ []
  -- "The four-block chain above: SEND, ECHO, READY, delivery at places 0 to 3"
  pub chain : Campaign (sites 1) 0
      (chained 0 making sends 7
      ∷ chained 1 making echoes 7
      ∷ chained 2 making readies 7
      ∷ chained 3 making delivers 7
      ∷ [])
  -- "n 4, owner 0 requests 42; four blocks refer to it, four to all of those, four to all of these: ECHO, READY, delivery; 13 blocks"
  pub thirteen_blocks : Campaign (sites 4) 0 thirteen
  -- "n 4, two ECHOs heard: no READY; three: READY"
  pub echoes_heard : Campaign (sites 4) 0
      (first making sends 42
      ∷ echoing 0 making echoes 42
      ∷ echoing 1 making echoes 42
      ∷ echoing 2 making echoes 42
      ∷ two_echoes making none
      ∷ readying three_sites 2 making readies 42
      ∷ [])
  -- "n 4, no ECHO heard, READY from two sites: READY, no delivery; a third: delivery"
  pub readies_heard : Campaign (sites 4) 0
      (first making sends 42
      ∷ echoing 0 making echoes 42
      ∷ echoing 1 making echoes 42
      ∷ echoing 2 making echoes 42
      ∷ readying three_sites 0 making readies 42
      ∷ readying three_sites 1 making readies 42
      ∷ readying three_sites 2 making readies 42
      ∷ two_readies making readies 42
      ∷ third_ready making delivers 42
      ∷ [])
  -- "n 4, owner 0: site 0 forks with 42 and 43 at sequence 0; a block of site 1 refers to both: ECHO 42. One of site 2 sees 43 only: ECHO 43"
  pub fork_heard : Campaign (sites 4) 0
      (first making sends 42
      ∷ fork making sends 43
      ∷ both making echoes 42
      ∷ block 2 0 (toy fork ∷ []) [] making echoes 43
      ∷ [])
  -- "A request by a site that isn't the owner: admitted, nothing sent"
  pub other_requests : Campaign (sites 4) 0 (block 1 0 [] (request 0 42 ∷ []) making none ∷ [])
  -- "The owner's second request, a block later: no SEND". The block hears the SEND of the first
  pub second_request : Campaign (sites 4) 0
      (first making sends 42
      ∷ block 0 1 (toy first ∷ []) (request 0 43 ∷ []) making echoes 42
      ∷ [])
  -- "Sequence 1 without references, or with both forks of sequence 0: 10"
  pub without_one_parent :
      (answers toy fresh (good (block 0 1 [] []) ∷ []) ≡ refused 10 0 ∷ [])
      × (answers toy fresh (good first ∷ good fork ∷ good (block 0 1 (toy first ∷ toy fork ∷ []) []) ∷ []) ≡ placed 0 ∷ placed 1 ∷ refused 10 0 ∷ [])
