-- Request Twelve: the last place is taken back. n 4, owner 0. What taking back answers, the table that it leaves, what calls answer afterwards, and
-- which blocks then count. The digest is the toy one.
use Rattle.std.specs.Prelude.{◌≡◌, true, false, List, [], ◌∷◌, ◌++◌, ℕ, zero, suc, replicate}
use Rattle.base.specs.Bytes.{Bytes, same_bytes}
use Rattle.answer.specs.Checks.{answer_to, refused}
use Rattle.table.specs.View.{marked_if, View}
use Rattle.table.specs.Layout.{layout}
use Rattle.table.specs.Fresh.{nothing}
use Rattle.records.specs.Layout.{part_of, record_in}
use Rattle.admission.specs.Admission.{row_for}
use Rattle.take_back.specs.TakingBack.{taking_back_checks, taken_back}
use Rattle.watch.specs.Forks.{forks}
use Rattle.history.specs.Forks.{forked, NoCollision}
use Rattle.run.specs.Ledger.Call.{interpret, take_back}
use Rattle.cases.specs.Toy.{toy, block}
use Rattle.cases.specs.Run.{good, placed, done, table_after, answers, Turn, ◌giving◌, ledger_left, site_left, Session, echoes}
use Rattle.cases.specs.Blocks.{sites, fresh, unlawful, first, fork, second, third, echoing, four, holding}
use Rattle.cases.specs.Form.{with_mark_at, retired_some}
use Rattle.cases.specs.Starred.{chained}
use Rattle.cases.specs.Watch.{naming}
use Rattle.cases.specs.Arrivals.{table_of, chain_block, arrives, mixture}
use Rattle.cases.specs.Retiring.{fork_retired}

-- ---- the order of the checks

-- `four` with all places interpreted
unfoldable pub four_marked : Bytes
four_marked = with_mark_at (with_mark_at (with_mark_at (with_mark_at four 0 1) 1 1) 2 1) 3 1

-- a view of k places in which every row is marked, the rows from the count on too
abbrev pub marked_view : ℕ → View
marked_view k = record { retired = 0; held = k; row = λ i. marked_if true (row_for toy nothing first) }

-- "32 .. 33 .. in that order after 2": a row for each two of these numbers. The first call has both causes and gets the earlier number; in the second
-- only the earlier cause is mended, and it gets the later number.
pub record TakingBackOrderCases : Type 0 where
  -- 2, 32: a table that holds nothing and is not in form, then one that is in form
  pub form_before_held : (answers toy unlawful (take_back ∷ []) ≡ refused 2 0 ∷ []) × (answers toy fresh (take_back ∷ []) ≡ refused 32 0 ∷ [])
  -- 2, 33: the last place is interpreted; what it refers to is not, and then it is
  pub form_before_interpreted :
      (answers toy (with_mark_at four 3 1) (take_back ∷ []) ≡ refused 2 0 ∷ []) × (answers toy four_marked (take_back ∷ []) ≡ refused 33 0 ∷ [])
  -- 32, 33: no table in form has both causes, so this row is about the checks on a view
  pub held_before_interpreted :
      (answer_to (taking_back_checks true (marked_view 0)) 0 ≡ refused 32 0) × (answer_to (taking_back_checks true (marked_view 1)) 0 ≡ refused 33 0)
  -- 32: a table that has retired something and holds nothing
  pub retired_empty : answers toy (retired_some fresh) (take_back ∷ []) ≡ refused 32 0 ∷ []

-- ---- what is left

-- a table of three blocks, at places 0 to 2; site 3's block, the last, refers to place 1
unfoldable pub three : Bytes
three = table_of (first ∷ fork ∷ third ∷ [])

unfoldable pub twin_of : ℕ → Bytes
twin_of zero = first
twin_of (suc i) = fork

-- a table of the two forks alone
unfoldable pub twins_held : Bytes
twins_held = table_of (first ∷ fork ∷ [])

pub record BeforeCases : Type 0 where
  -- "the table without it, all fields": every byte
  pub table : taken_back three ≡ layout (sites 4) (record { retired = 0; held = 2; row = λ i. row_for toy nothing (twin_of i) })
  -- "straight after an admission that is the table before it"
  pub undone : taken_back three ≡ twins_held
  -- the marks of lower places stay, and whether something has been retired stays
  pub marks_stay : taken_back (with_mark_at (with_mark_at three 0 1) 1 1) ≡ with_mark_at (with_mark_at twins_held 0 1) 1 1
  pub retired_stays : taken_back (retired_some three) ≡ retired_some twins_held
  -- of 64 blocks 63 are left
  pub full_table : taken_back (holding 64) ≡ holding 63
  -- three blocks are taken back, down to the empty table; a fourth taking back is refused
  pub down_to_empty : table_after toy three (replicate 3 take_back) ≡ fresh
  pub no_further : answers toy three (replicate 4 take_back) ≡ done ∷ done ∷ done ∷ refused 32 0 ∷ []
  -- 33 is about the last place alone, whatever other places are interpreted
  pub last_alone : answers toy (with_mark_at twins_held 1 1) (take_back ∷ []) ≡ refused 33 0 ∷ []
  pub another_alone : answers toy (with_mark_at twins_held 0 1) (take_back ∷ []) ≡ done ∷ []
  -- a refusal changes nothing
  pub refused_table : taken_back four_marked ≡ four_marked
  -- the watch names a fork as long as both blocks are held
  pub named : forks twins_held ≡ naming 1 1 true
  pub not_named : forks (taken_back twins_held) ≡ naming 0 0 true

-- "each block let in from the shelf being an admission of its own": the chain's first block arrives and two blocks are let in; these are taken back
-- one by one, and then the first block
pub record LetInCases : Type 0 where
  pub let_in : (arrives fresh mixture 0 (chained 0) 1).table ≡ chain_block 3
  pub one_by_one : (taken_back (chain_block 3) ≡ chain_block 2) × ((taken_back (chain_block 2) ≡ chain_block 1) × (taken_back (chain_block 1) ≡ fresh))

-- ---- what calls answer after a taking back

unfoldable pub taken_back_turns : List Turn
taken_back_turns =
    take_back giving refused 32 0
    ∷ good first giving placed 0
    ∷ good second giving placed 1
    ∷ take_back giving done
    -- a block that was taken back is not held
    ∷ good (block 0 2 (toy second ∷ []) []) giving refused 9 0
    -- a block that was taken back may be admitted again
    ∷ good second giving placed 1
    ∷ interpret 0 giving done
    ∷ take_back giving done
    -- place 0, which is interpreted, is the last
    ∷ take_back giving refused 33 0
    ∷ good second giving placed 1
    ∷ interpret 1 giving done
    ∷ take_back giving refused 33 0
    ∷ []

-- site 0's fork is admitted, and taken back
unfoldable pub fork_taken_back : List Turn
fork_taken_back = good first giving placed 0 ∷ good fork giving placed 1 ∷ take_back giving done ∷ []

-- another site holds site 0's fork
unfoldable pub fork_held : List Turn
fork_held = good fork giving placed 0 ∷ []

-- site 0's fork was retired, is admitted again, and that admission is taken back
unfoldable pub again_taken_back : List Turn
again_taken_back = fork_retired ++ (good fork giving placed 2 ∷ take_back giving done ∷ [])

-- "a block counts only if some admission of it, at either site or before it was retired, was not taken back"
pub record CountedCases : Type 0 where
  pub taken : Session (sites 4) taken_back_turns
  pub blocks : (ledger_left (sites 4) taken_back_turns).blocks ≡ second ∷ first ∷ []
  -- a site is not forked by a block that was taken back
  pub fork_taken : Session (sites 4) fork_taken_back
  pub not_forked : forked (ledger_left (sites 4) fork_taken_back).blocks 0 ≡ false
  -- "at either site": a block that one site took back counts where another site holds it
  pub elsewhere_taken : Session (sites 4) fork_held
  pub forked_elsewhere : forked ((ledger_left (sites 4) fork_taken_back).blocks ++ (ledger_left (sites 4) fork_held).blocks) 0 ≡ true
  -- "before it was retired": a site stays forked by a block that was retired, though a second admission of it is taken back
  pub again_taken : Session (sites 4) again_taken_back
  pub still_forked : forked (ledger_left (sites 4) again_taken_back).blocks 0 ≡ true

-- ---- a block that was taken back shares its digest with another

-- a block of site 1 that shares the digest of `echoing 1`: it refers to `fork`, and `echoing 1` to `first`
unfoldable pub alike : Bytes
alike = block 1 0 (toy fork ∷ []) []

unfoldable pub alike_taken_back : List Turn
alike_taken_back =
    good first giving placed 0
    ∷ interpret 0 giving done
    ∷ good fork giving placed 1
    ∷ interpret 1 giving done
    ∷ good alike giving placed 2
    ∷ good (echoing 1) giving refused 8 2
    ∷ take_back giving done
    ∷ good (echoing 1) giving placed 2
    ∷ interpret 2 giving done
    ∷ []

-- another site, to which `alike` never came
unfoldable pub alike_unknown : List Turn
alike_unknown = good first giving placed 0 ∷ interpret 0 giving done ∷ good (echoing 1) giving placed 1 ∷ interpret 1 giving done ∷ []

-- a block that was taken back may share its digest with a block that counts: the premise of the theorem of two sites holds, and so does what it says
pub record SharedDigestCases : Type 0 where
  pub taken : Session (sites 4) alike_taken_back
  pub other_taken : Session (sites 4) alike_unknown
  pub shared : toy alike ≡ toy (echoing 1)
  pub different : same_bytes alike (echoing 1) ≡ false
  pub no_collision : NoCollision toy ((ledger_left (sites 4) alike_taken_back).blocks ++ (ledger_left (sites 4) alike_unknown).blocks)
  -- the block that counts has the same 320 numbers at both sites, and hears the SEND of `first`
  pub same_part : part_of (site_left (sites 4) alike_taken_back).records 2 ≡ part_of (site_left (sites 4) alike_unknown).records 1
  pub echo : (record_in (site_left (sites 4) alike_taken_back).records 2 0).made ≡ echoes 42
