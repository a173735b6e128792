-- The premises of the theorem of two sites (crates/agreement, specs/TwoSites.antt) can be met, and what the theorem then says of two runs. n 4, owner
-- 0; site 0 forks with 42 and 43. One site gets blocks of the first branch alone. The other site gets the second branch first, and holds blocks of
-- both. The orders differ, and refused calls stand among the others. Both sites deliver 42. The digest is the toy one.
use Rattle.std.specs.Prelude.{◌≡◌, true, false, ◌⊎◌, List, [], ◌∷◌, ◌++◌, ℕ, ◌≤◌, replicate}
use Rattle.base.specs.Bytes.{Bytes}
use Rattle.base.specs.Count.{count_below}
use Rattle.base.specs.List.{list_below}
use Rattle.answer.specs.Checks.{refused}
use Rattle.setup.specs.Setup.{lawful, faults}
use Rattle.records.specs.Layout.{buffer_size, part_of}
use Rattle.history.specs.Forks.{forked, NoCollision}
use Rattle.run.specs.Ledger.{Ledger}
use Rattle.run.specs.Ledger.Call.{interpret}
use Rattle.run.specs.Run.{started, site_answers}
use Rattle.run.specs.Promises.{Interpreted, Delivered, ledger_of, site_with}
use Rattle.cases.specs.Toy.{toy, request, block}
use Rattle.cases.specs.Run.{good, judged, placed, done, Turn, ◌giving◌, calls_of, answers_of}
use Rattle.cases.specs.Blocks.{sites, first, fork, third, three_sites, echoing, readying, delivering}

-- ---- the second branch

-- a block of site 0 that refers to its fork: ECHO 43. `third` is a block of site 3 that refers to the fork too
unfoldable pub fork_echoing : Bytes
fork_echoing = block 0 1 (toy fork ∷ toy third ∷ []) []

-- a block of site 3, which has sent ECHO 43, that hears the READYs of sites 1 and 2, and its next, which hears its own
unfoldable pub turning : Bytes
turning = block 3 1 (toy third ∷ toy (readying three_sites 1) ∷ toy (readying three_sites 2) ∷ []) []

unfoldable pub after_turning : Bytes
after_turning = block 3 2 (toy turning ∷ []) []

-- ---- the two lists of calls, with their answers

unfoldable pub first_turns : List Turn
first_turns =
    interpret 0 giving refused 13 0
    ∷ good first giving placed 0
    ∷ good (echoing 0) giving placed 1
    ∷ interpret 1 giving refused 15 0
    ∷ interpret 0 giving done
    ∷ interpret 1 giving done
    ∷ good first giving refused 8 0
    ∷ good (echoing 1) giving placed 2
    ∷ good (echoing 2) giving placed 3
    ∷ interpret 3 giving done
    ∷ interpret 2 giving done
    ∷ judged 0 (readying three_sites 0) giving refused 5 0
    ∷ good (readying three_sites 0) giving placed 4
    ∷ good (delivering three_sites 1) giving refused 9 1
    ∷ good (readying three_sites 1) giving placed 5
    ∷ good (readying three_sites 2) giving placed 6
    ∷ interpret 4 giving done
    ∷ interpret 5 giving done
    ∷ interpret 6 giving done
    ∷ good (delivering three_sites 1) giving placed 7
    ∷ interpret 7 giving done
    ∷ interpret 7 giving refused 14 0
    ∷ []

unfoldable pub second_turns : List Turn
second_turns =
    good fork giving placed 0
    ∷ good third giving placed 1
    ∷ good fork_echoing giving placed 2
    ∷ good first giving placed 3
    ∷ good (block 0 1 (toy first ∷ toy fork ∷ toy third ∷ []) []) giving refused 10 0
    ∷ good (echoing 2) giving placed 4
    ∷ good (echoing 1) giving placed 5
    ∷ good (echoing 0) giving placed 6
    ∷ interpret 6 giving refused 15 3
    ∷ interpret 3 giving done
    ∷ interpret 6 giving done
    ∷ interpret 5 giving done
    ∷ interpret 4 giving done
    ∷ good (readying three_sites 2) giving placed 7
    ∷ good (readying three_sites 1) giving placed 8
    ∷ interpret 8 giving done
    ∷ interpret 7 giving done
    ∷ good turning giving placed 9
    ∷ interpret 9 giving refused 15 1
    ∷ interpret 0 giving done
    ∷ interpret 1 giving done
    ∷ interpret 2 giving done
    ∷ interpret 9 giving done
    ∷ good after_turning giving placed 10
    ∷ interpret 10 giving done
    ∷ []

-- ---- what the theorem is about

-- "each with its record buffer of any length and content"
abbrev pub first_buffer : List ℕ
first_buffer = replicate buffer_size 0

abbrev pub second_buffer : List ℕ
second_buffer = replicate buffer_size 7

abbrev pub first_ledger : Ledger
first_ledger = ledger_of toy (sites 4) first_buffer (calls_of first_turns)

abbrev pub second_ledger : Ledger
second_ledger = ledger_of toy (sites 4) second_buffer (calls_of second_turns)

-- what the theorem asks of two ledgers, and a delivery in each
pub record PremisesMet (l₁ l₂ : Ledger) : Type 0 where
  pub no_collision : NoCollision toy (l₁.blocks ++ l₂.blocks)
  pub few_forked : count_below (forked (l₁.blocks ++ l₂.blocks)) 4 ≤ faults 4
  -- as many sites forked as may fork: site 0 did, which the first site's blocks alone do not show
  pub most_forked : count_below (forked (l₁.blocks ++ l₂.blocks)) 4 ≡ faults 4
  pub forked_in_both : list_below (forked (l₁.blocks ++ l₂.blocks)) 4 ≡ true ∷ false ∷ false ∷ false ∷ []
  pub forked_in_first : list_below (forked l₁.blocks) 4 ≡ false ∷ false ∷ false ∷ false ∷ []
  pub first_delivers : Delivered toy (sites 4) l₁ 0 42
  pub second_delivers : Delivered toy (sites 4) l₂ 0 42
  -- site 1's block with READY stands at place 5 of the first site and at place 8 of the second
  pub first_interpreted : Interpreted l₁ 5
  pub second_interpreted : Interpreted l₂ 8
  pub same_block : l₁.block 5 ≡ l₂.block 8

-- "two different blocks of one sequence number": both bytes of the number are compared
pub record ForkedCases : Type 0 where
  pub other_high_byte : forked (block 0 1 [] [] ∷ block 0 257 [] [] ∷ []) 0 ≡ false
  pub both_bytes : forked (block 0 257 [] [] ∷ block 0 257 [] (request 0 1 ∷ []) ∷ []) 0 ≡ true

pub record PremiseCases : Type 0 where
  pub first_answers : site_answers toy (started (sites 4) first_buffer) (calls_of first_turns) ≡ answers_of first_turns
  pub second_answers : site_answers toy (started (sites 4) second_buffer) (calls_of second_turns) ≡ answers_of second_turns
  -- the premises hold
  pub lawful_setup : lawful (sites 4) ≡ true
  pub met : PremisesMet first_ledger second_ledger
  -- so, by the theorem, the slot has one number at both sites
  pub one_number : (v w : ℕ)
      → Delivered toy (sites 4) first_ledger 0 v ⊎ Delivered toy (sites 4) second_ledger 0 v
      → Delivered toy (sites 4) first_ledger 0 w ⊎ Delivered toy (sites 4) second_ledger 0 w
      → v ≡ w
  -- and a block that is interpreted at both sites has the same 320 numbers at both
  pub same_part :
      part_of (site_with toy (sites 4) first_buffer (calls_of first_turns)).records 5
      ≡ part_of (site_with toy (sites 4) second_buffer (calls_of second_turns)).records 8
