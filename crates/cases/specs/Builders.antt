-- A site that builds by the building rule is full (crates/arrival, specs/Building.antt): three runs. n 4, owner 0. In the first run site 1's table
-- holds a fork of site 0 and two blocks of site 3; site 1 builds a block and admits it, a block of site 2 and its own block arrive, and site 1 builds
-- again, each time with a request. In the second run another site holds site 1's first block, and a block that site 1 does not hold. In the third run
-- site 1 retires a block before it builds, and is not full. The digest is the toy one.
use mathlib.Core.List.{List, [], ◌∷◌, ◌++◌, Memᴰ}
use Rattle.base.specs.Bytes.{Bytes}
use Rattle.answer.specs.Checks.{refused}
use Rattle.history.specs.Forks.{NoCollision}
use Rattle.run.specs.Ledger.Call.{interpret, retire, take_back}
use Rattle.run.specs.Run.{started}
use Rattle.arrival.specs.Full.{BlockBy, Full}
use Rattle.arrival.specs.Building.{BuildsByRule}
use Rattle.cases.specs.Toy.{toy, request, block}
use Rattle.cases.specs.Run.{good, placed, done, zero_records, Turn, ◌giving◌, calls_of, ledger_left, Session}
use Rattle.cases.specs.Blocks.{sites, first, fork, second, third, fourth, echoing}

-- site 1's blocks: one that it takes back before a fourth block arrives; one that refers to all four blocks that it then holds; and its next, which
-- refers to that one and to the block that has arrived since
unfoldable pub built_too_early : Bytes
built_too_early = block 1 0 (toy first ∷ toy fork ∷ toy third ∷ []) (request 3 7 ∷ [])

unfoldable pub first_built : Bytes
first_built = block 1 0 (toy first ∷ toy fork ∷ toy third ∷ toy fourth ∷ []) (request 3 7 ∷ [])

unfoldable pub next_built : Bytes
next_built = block 1 1 (toy first_built ∷ toy (echoing 2) ∷ []) (request 3 7 ∷ [])

unfoldable pub own_turns : List Turn
own_turns =
    good first giving placed 0
    ∷ good fork giving placed 1
    ∷ good third giving placed 2
    ∷ good built_too_early giving placed 3
    ∷ take_back giving done
    ∷ good fourth giving placed 3
    ∷ good first_built giving placed 4
    ∷ good (echoing 2) giving placed 5
    ∷ good first_built giving refused 8 4
    ∷ good next_built giving placed 6
    ∷ []

unfoldable pub other_turns : List Turn
other_turns =
    good fork giving placed 0
    ∷ good third giving placed 1
    ∷ good first giving placed 2
    ∷ good fourth giving placed 3
    ∷ good first_built giving placed 4
    ∷ good (block 3 2 (toy fourth ∷ toy first_built ∷ []) []) giving placed 5
    ∷ []

-- what site 1 builds after site 0's first block was retired: a block that refers to site 0's second, and so is above the first
unfoldable pub built_late : Bytes
built_late = block 1 0 (toy second ∷ []) []

unfoldable pub late_turns : List Turn
late_turns =
    good first giving placed 0
    ∷ interpret 0 giving done
    ∷ good second giving placed 1
    ∷ interpret 1 giving done
    ∷ retire giving done
    ∷ good built_late giving placed 1
    ∷ []

-- site 1 builds all of its blocks by the rule, and so it is full; the block that it took back does not count
pub record BuilderFull : Type 0 where
  pub taken : Session (sites 4) own_turns
  pub by_rule : BuildsByRule toy 1 (started (sites 4) zero_records) (calls_of own_turns)
  pub full : Full toy (ledger_left (sites 4) own_turns).blocks 1

-- site 1 is full by the other site's blocks too
pub record FullElsewhere : Type 0 where
  pub taken : Session (sites 4) other_turns
  pub no_collision : NoCollision toy ((ledger_left (sites 4) own_turns).blocks ++ (ledger_left (sites 4) other_turns).blocks)
  pub known : (b : Bytes) → BlockBy (ledger_left (sites 4) other_turns).blocks 1 b → Memᴰ b (ledger_left (sites 4) own_turns).blocks
  pub full : Full toy (ledger_left (sites 4) other_turns).blocks 1

-- where something was retired, a site may build by the rule and not be full: it cannot refer to a block that its table does not hold
pub record BuilderLate : Type 0 where
  pub taken : Session (sites 4) late_turns
  pub by_rule : BuildsByRule toy 1 (started (sites 4) zero_records) (calls_of late_turns)
  pub not_full : Full toy (ledger_left (sites 4) late_turns).blocks 1 → ⊥

pub record BuilderCases : Type 0 where
  pub builder_full : BuilderFull
  pub full_elsewhere : FullElsewhere
  pub builder_late : BuilderLate
