-- Request Eleven: place 0 is retired. n 4, owner 0. What retiring answers, the table and the record buffer that it leaves, and what calls answer
-- afterwards. The digest is the toy one.
use Rattle.std.specs.Prelude.{◌≡◌, true, false, not, List, [], ◌∷◌, ◌++◌, map, ℕ, zero, suc, ◌-◌, eqb, length, drop, replicate}
use Rattle.base.specs.Bytes.{Bytes}
use Rattle.base.specs.List.{list_below, passing_below}
use Rattle.answer.specs.Checks.{refused}
use Rattle.broadcast.specs.declared.Sent.{Sent}
use Rattle.broadcast.specs.Record.{none}
use Rattle.table.specs.View.{Row, marked_if}
use Rattle.table.specs.Layout.{view_of, layout}
use Rattle.table.specs.Fresh.{nothing}
use Rattle.records.specs.Layout.{buffer_size, part_start, part_of, record_in}
use Rattle.admission.specs.Admission.{row_for, admitted}
use Rattle.retire.specs.Retiring.{retired_table, retired_records}
use Rattle.watch.specs.Forks.{everywhere, forks}
use Rattle.watch.specs.Ancestors.{ancestors}
use Rattle.build.specs.Building.{next_block}
use Rattle.history.specs.Forks.{forked}
use Rattle.run.specs.Ledger.{view_in}
use Rattle.run.specs.Ledger.Call.{interpret, retire}
use Rattle.run.specs.Run.{site_answers}
use Rattle.run.specs.Promises.{InterpretedBlock}
use Rattle.cases.specs.Toy.{toy, request, block}
use Rattle.cases.specs.Run.{good, placed, done, answers, Turn, ◌giving◌, ledger_left, site_left, Session, Step, ◌making◌, sends, echoes, readies, delivers, arriving}
use Rattle.cases.specs.Blocks.{sites, fresh, unlawful, first, fork, second, four_sites, echoing, four}
use Rattle.cases.specs.Form.{with_mark_at}
use Rattle.cases.specs.Interpretation.{lent}
use Rattle.cases.specs.Watch.{naming, resting}
use Rattle.cases.specs.Arrivals.{table_of}
use Rattle.cases.specs.Joins.{rising}

-- ---- the order of the checks

-- "29 .. after 2, 12 and 13": a row for each two of these numbers. The first call has both causes and gets the earlier number; in the second only the
-- earlier cause is mended, and it gets the later number. No place of `four` is interpreted.
pub record RetiringOrderCases : Type 0 where
  -- 2, 12: a buffer that is one number short, with a table that is not in form, then with a table that is
  pub form_before_size :
      (site_answers toy (lent unlawful (buffer_size - 1)) (retire ∷ []) ≡ refused 2 0 ∷ [])
      × (site_answers toy (lent fresh (buffer_size - 1)) (retire ∷ []) ≡ refused 12 0 ∷ [])
  -- 2, 13: a table that holds nothing and is not in form, then one that is in form
  pub form_before_place : (answers toy unlawful (retire ∷ []) ≡ refused 2 0 ∷ []) × (answers toy fresh (retire ∷ []) ≡ refused 13 0 ∷ [])
  -- 2, 29: a table that holds four blocks and is not in form, then one that is in form
  pub form_before_retirable :
      (answers toy (with_mark_at four 0 2) (retire ∷ []) ≡ refused 2 0 ∷ []) × (answers toy four (retire ∷ []) ≡ refused 29 0 ∷ [])
  -- 12, 13: a table that holds nothing, with a buffer that is one number short, then with a whole buffer
  pub size_before_place :
      (site_answers toy (lent fresh (buffer_size - 1)) (retire ∷ []) ≡ refused 12 0 ∷ [])
      × (site_answers toy (lent fresh buffer_size) (retire ∷ []) ≡ refused 13 0 ∷ [])
  -- 12, 29: a table that holds four blocks, with a buffer of one number too many, then with a whole buffer
  pub size_before_retirable :
      (site_answers toy (lent four (suc buffer_size)) (retire ∷ []) ≡ refused 12 0 ∷ [])
      × (site_answers toy (lent four buffer_size) (retire ∷ []) ≡ refused 29 0 ∷ [])
  -- 13, 29: nothing is held, then four blocks are
  pub place_before_retirable : (answers toy fresh (retire ∷ []) ≡ refused 13 0 ∷ []) × (answers toy four (retire ∷ []) ≡ refused 29 0 ∷ [])

-- ---- 29: one condition is missing, and then it is met

-- site 0's block after the fork
unfoldable pub after_fork : Bytes
after_fork = block 0 1 (toy fork ∷ []) []

pub record RetirableCases : Type 0 where
  -- "if it is interpreted": place 0 is not. The fork and the block after it meet the other conditions
  pub not_interpreted : Session (sites 4)
      (good first giving placed 0
      ∷ good fork giving placed 1
      ∷ interpret 1 giving done
      ∷ good after_fork giving placed 2
      ∷ interpret 2 giving done
      ∷ retire giving refused 29 0
      ∷ interpret 0 giving done
      ∷ retire giving done
      ∷ [])
  -- "every held block referring to it is interpreted": site 2's block is not
  pub referrer_not : Session (sites 4)
      (good first giving placed 0
      ∷ interpret 0 giving done
      ∷ good second giving placed 1
      ∷ interpret 1 giving done
      ∷ good (echoing 2) giving placed 2
      ∷ retire giving refused 29 0
      ∷ interpret 2 giving done
      ∷ retire giving done
      ∷ [])
  -- "its site has a held, interpreted block of greater sequence number": there is no later block; only one of another site; only one of the same
  -- sequence number; only one that is not interpreted
  pub no_later : Session (sites 4)
      (good first giving placed 0
      ∷ interpret 0 giving done
      ∷ retire giving refused 29 0
      ∷ good (block 1 0 [] []) giving placed 1
      ∷ interpret 1 giving done
      ∷ good (block 1 1 (toy (block 1 0 [] []) ∷ []) []) giving placed 2
      ∷ interpret 2 giving done
      ∷ retire giving refused 29 0
      ∷ good fork giving placed 3
      ∷ interpret 3 giving done
      ∷ retire giving refused 29 0
      ∷ good after_fork giving placed 4
      ∷ retire giving refused 29 0
      ∷ interpret 4 giving done
      ∷ retire giving done
      ∷ [])

-- ---- what is left

-- site 0's third block, which refers to its second and to site 2's block
unfoldable pub last_one : Bytes
last_one = block 0 2 (toy second ∷ toy (echoing 2) ∷ []) []

-- a table of four blocks: `second` and site 2's block refer to `first`, and these three are interpreted; `last_one` is not
unfoldable pub three_marked : Bytes
three_marked = with_mark_at (with_mark_at (with_mark_at (table_of (first ∷ second ∷ echoing 2 ∷ last_one ∷ [])) 0 1) 1 1) 2 1

-- the rows that stay when `first` is retired: two rows that refer to no place, and one that refers to both, at places 0 and 1
unfoldable pub pair_of : ℕ → Bytes
pair_of zero = second
pair_of (suc i) = echoing 2

unfoldable pub rows_left : ℕ → Row
rows_left zero = marked_if true (row_for toy nothing second)
rows_left (suc zero) = marked_if true (row_for toy nothing (echoing 2))
rows_left (suc (suc i)) = row_for toy (record { retired = 0; held = 2; row = λ j. row_for toy nothing (pair_of j) }) last_one

unfoldable pub rising_numbers : List ℕ
rising_numbers = rising 0 buffer_size

-- a table of `fork`, of `first`, which forks with it, and of the block after the fork; all three are interpreted
unfoldable pub twins : Bytes
twins = with_mark_at (with_mark_at (with_mark_at (table_of (fork ∷ first ∷ after_fork ∷ [])) 0 1) 1 1) 2 1

pub record RetiringLeftCases : Type 0 where
  -- "Retire place 0 and move every other place .. down by one": every byte of the table
  pub table : retired_table three_marked rising_numbers ≡ layout (sites 4) (record { retired = 1; held = 3; row = rows_left })
  -- "every other place and record"; "the buffer from the new count on stays": every number of the buffer
  pub records : retired_records three_marked rising_numbers ≡ part_of rising_numbers 1 ++ (part_of rising_numbers 2 ++ (part_of rising_numbers 3 ++ drop (part_start 3) rising_numbers))
  -- a refusal changes nothing
  pub refused_table : retired_table four rising_numbers ≡ four
  pub refused_records : retired_records four rising_numbers ≡ rising_numbers
  -- the watch names a fork as long as both blocks are held
  pub named : forks twins ≡ naming 1 1 true
  pub not_named : forks (retired_table twins rising_numbers) ≡ naming 0 0 true
  -- the watch names an ancestor as long as it is held: for `last_one` all three others, and then the two that are left
  pub three_ancestors : ancestors three_marked 3 ≡ resting 7 3
  pub two_ancestors : ancestors (retired_table three_marked rising_numbers) 2 ≡ resting 3 2
  -- site 2 does not refer to `first` again, as its block does; but it does if `first` was retired and is admitted again
  pub referred_before : next_block everywhere (view_of three_marked) 2 [] ≡ block 2 1 (map toy (echoing 2 ∷ second ∷ last_one ∷ [])) []
  pub referred_again : next_block everywhere (view_of (admitted toy (retired_table three_marked rising_numbers) first 1)) 2 []
      ≡ block 2 1 (map toy (echoing 2 ∷ second ∷ last_one ∷ first ∷ [])) []

-- ---- what calls answer after a retiring

unfoldable pub afterwards : List Turn
afterwards =
    good first giving placed 0
    ∷ interpret 0 giving done
    ∷ good second giving placed 1
    ∷ interpret 1 giving done
    ∷ retire giving done
    -- a held block is refused with 8, also where the block that it refers to was retired
    ∷ good second giving refused 8 0
    -- "Until it is admitted again, a later block that refers to it gets 9"
    ∷ good (echoing 1) giving refused 9 0
    -- "if the same bytes are admitted again, their new place is unmarked until it is interpreted"
    ∷ good first giving placed 1
    ∷ good (echoing 1) giving placed 2
    ∷ interpret 2 giving refused 15 1
    ∷ interpret 1 giving done
    ∷ interpret 2 giving done
    ∷ []

pub record AfterwardsCases : Type 0 where
  pub taken : Session (sites 4) afterwards
  -- the ledger keeps `first` without a place, and has it a second time at place 1
  pub retired_blocks : (ledger_left (sites 4) afterwards).retired ≡ first ∷ []
  pub blocks : (ledger_left (sites 4) afterwards).blocks ≡ echoing 1 ∷ first ∷ second ∷ first ∷ []
  -- `second`, at place 0, does not refer to place 1, though it lists the digest of `first`; site 1's block, at place 2, does
  pub not_again : ((view_in toy (ledger_left (sites 4) afterwards)).row 0).refers_to 1 ≡ false
  pub newly : ((view_in toy (ledger_left (sites 4) afterwards)).row 2).refers_to 1 ≡ true

-- "Forks in the agreement statement are counted over every block ever admitted, retired ones too"
unfoldable pub fork_retired : List Turn
fork_retired =
    good fork giving placed 0
    ∷ interpret 0 giving done
    ∷ good first giving placed 1
    ∷ interpret 1 giving done
    ∷ good after_fork giving placed 2
    ∷ interpret 2 giving done
    ∷ retire giving done
    ∷ []

pub record ForkRetiredCases : Type 0 where
  pub taken : Session (sites 4) fork_retired
  pub still_forked : forked (ledger_left (sites 4) fork_retired).blocks 0 ≡ true
  -- "the ledger then keeps the block and its mark, without a place": the retired block is an interpreted block
  pub still_interpreted : InterpretedBlock (ledger_left (sites 4) fork_retired) fork

-- ---- a campaign that goes on: four sites build by the rule, in rounds; every block is interpreted, and after each round four blocks are retired

-- the block of site p in round r, which refers first to its own block of the round before, then to the others'
unfoldable pub in_round : ℕ → ℕ → Bytes
in_round zero zero = block 0 0 [] (request 0 42 ∷ [])
in_round zero (suc p) = block (suc p) 0 [] []
in_round (suc r) p = block p (suc r) (map (λ q. toy (in_round r q)) (p ∷ passing_below (λ q. not (eqb q p)) 4)) []

-- what the block of site p in round r makes of the request of site 0's first block
unfoldable pub makes : ℕ → ℕ → Sent
makes zero zero = sends 42
makes zero (suc p) = none
makes (suc zero) p = echoes 42
makes (suc (suc zero)) p = readies 42
makes (suc (suc (suc zero))) p = delivers 42
makes (suc (suc (suc (suc r)))) p = none

unfoldable pub round_of : ℕ → List Step
round_of r = map (λ p. in_round r p making makes r p) four_sites

abbrev pub four_retirings : List Turn
four_retirings = replicate 4 (retire giving done)

-- round 0 at places 0 to 3, then each further round at places 4 to 7, after which the four lower places are retired
unfoldable pub round_turns : ℕ → List Turn
round_turns zero = arriving 0 (round_of 0)
round_turns (suc r) = round_turns r ++ (arriving 4 (round_of (suc r)) ++ four_retirings)

pub record GoingOnCases : Type 0 where
  -- no call is refused
  pub taken : Session (sites 4) (round_turns 4)
  -- four blocks are held, all of the last round, and sixteen were retired
  pub held : (ledger_left (sites 4) (round_turns 4)).held ≡ 4
  pub retired_count : length (ledger_left (sites 4) (round_turns 4)).retired ≡ 16
  -- the delivered number stands in the record of each place, though all blocks are retired that brought it about
  pub still_delivered : list_below (λ i. (record_in (site_left (sites 4) (round_turns 4)).records i 0).sent.delivered) 4 ≡ 42 ∷ 42 ∷ 42 ∷ 42 ∷ []
  -- in the round of the delivery each block makes the delivery, though of the twelve blocks before that round only four are held
  pub delivering : list_below (λ i. (record_in (site_left (sites 4) (round_turns 3)).records i 0).made) 4 ≡ replicate 4 (delivers 42)
