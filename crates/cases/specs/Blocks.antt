-- The blocks and tables that the cases share.
use Rattle.std.specs.Prelude.{List, [], ◌∷◌, map, ℕ, zero, suc, ◌+◌, replicate}
use Rattle.base.specs.Bytes.{Bytes}
use Rattle.base.specs.List.{list_below}
use Rattle.setup.specs.Setup.{Setup, slot_count}
use Rattle.block.specs.Limits.{max_references}
use Rattle.table.specs.Layout.{layout}
use Rattle.table.specs.Fresh.{nothing, empty_table}
use Rattle.admission.specs.Admission.{row_for}
use Rattle.cases.specs.Toy.{toy, request, block}
use Rattle.cases.specs.Run.{Step, ◌making◌, sends, echoes, good, table_after}

-- ---- setups and tables that hold no block

-- the setup of n sites in which site 0 owns every slot
abbrev pub sites : ℕ → Setup
sites n = record { sites = n; owners = replicate slot_count 0 }

-- the empty table of n 4, owner 0
unfoldable pub fresh : Bytes
fresh = empty_table (sites 4)

-- an empty table of n 3: not in form, since its setup is not lawful
unfoldable pub unlawful : Bytes
unlawful = empty_table (sites 3)

-- ---- blocks

-- "site 0 forks with 42 and 43 at sequence 0"
unfoldable pub first : Bytes
first = block 0 0 [] (request 0 42 ∷ [])

unfoldable pub fork : Bytes
fork = block 0 0 [] (request 0 43 ∷ [])

-- site 0's block after the first
unfoldable pub second : Bytes
second = block 0 1 (toy first ∷ []) []

-- a block of site 1 that refers to both forks
unfoldable pub both : Bytes
both = block 1 0 (toy first ∷ toy fork ∷ []) []

-- a block that never arrives
unfoldable pub stranger : Bytes
stranger = block 3 0 [] (request 0 99 ∷ [])

-- a block of site 3 that refers to the second fork
unfoldable pub third : Bytes
third = block 3 0 (toy fork ∷ []) []

-- site 3's next block, which refers to its third and to the first, and requests in slots 5 and 7
unfoldable pub fourth : Bytes
fourth = block 3 1 (toy third ∷ toy first ∷ []) (request 5 772 ∷ request 7 1 ∷ [])

-- blocks of site 0 and sequence 0 that differ in the number requested
unfoldable pub numbered : ℕ → Bytes
numbered i = block 0 0 [] (request 0 (i + 1) ∷ [])

-- a block of site 2 with the most references and a request of each of the first r slots
unfoldable pub fully_referring : ℕ → Bytes
fully_referring r = block 2 0 (list_below (λ i. toy (numbered i)) max_references) (list_below (λ i. request i 1) r)

-- ---- from the first block's request to delivery

-- the sequence number of the k-th block, from 0, that a site builds after the first block, which site 0 built
unfoldable pub later : ℕ → ℕ → ℕ
later zero k = suc k
later (suc p) k = k

-- the sites that take part in a campaign of four: three of them, and all
abbrev pub three_sites : List ℕ
three_sites = 0 ∷ 1 ∷ 2 ∷ []

abbrev pub four_sites : List ℕ
four_sites = 0 ∷ 1 ∷ 2 ∷ 3 ∷ []

-- the block of site p that refers to the first and hears its SEND
unfoldable pub echoing : ℕ → Bytes
echoing p = block p (later p 0) (toy first ∷ []) []

-- the block of site p that refers to the `echoing` blocks of these sites and hears their ECHOs
unfoldable pub readying : List ℕ → ℕ → Bytes
readying voters p = block p (later p 1) (map (λ q. toy (echoing q)) voters) []

-- the block of site p that refers to the `readying` blocks of these sites and hears their READYs
unfoldable pub delivering : List ℕ → ℕ → Bytes
delivering voters p = block p (later p 2) (map (λ q. toy (readying voters q)) voters) []

-- ---- tables that hold blocks

-- a table that holds four blocks, at places 0 to 3
unfoldable pub four : Bytes
four = table_after toy fresh (good first ∷ good fork ∷ good third ∷ good fourth ∷ [])

-- a table that holds the first k of the numbered blocks, written down at once: 64 admissions one after the other would be slow to evaluate
unfoldable pub holding : ℕ → Bytes
holding k = layout (sites 4) (record { retired = 0; held = k; row = λ i. row_for toy nothing (numbered i) })

-- ---- how many campaigns begin

-- the first block, the ECHO 42 of sites 0 to 2, and then these steps
abbrev pub echoed : List Step → List Step
echoed rest =
    first making sends 42
    ∷ echoing 0 making echoes 42
    ∷ echoing 1 making echoes 42
    ∷ echoing 2 making echoes 42
    ∷ rest

-- the first block, the ECHO 42 of sites 1 to 5, and then these steps
abbrev pub echoed_by_five : List Step → List Step
echoed_by_five rest =
    first making sends 42
    ∷ echoing 1 making echoes 42
    ∷ echoing 2 making echoes 42
    ∷ echoing 3 making echoes 42
    ∷ echoing 4 making echoes 42
    ∷ echoing 5 making echoes 42
    ∷ rest
