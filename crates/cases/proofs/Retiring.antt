-- The cases of retiring, by computing: what is long is compared by a test, which is fast. Assumes nothing.
use mathlib.Core.Path.{◌≡◌, refl, ap}
use mathlib.Core.Bool.{Bool, true, false}
use mathlib.Core.Logic.{inr}
use mathlib.Core.List.Memᴰ
use mathlib.Core.List.{List, [], ◌∷◌, ◌++◌}
use Prim.Native.Nat.{ℕ, ◌<◌}
use native.Mathlib.Omega.{arith}
use lib.Dec.{eqb}
use lib.ListN.{length, drop}
use Rattle.base.specs.Bytes.{Bytes}
use Rattle.base.specs.List.{some_in, passing_below}
use Rattle.base.proofs.Bytes.{same_equal}
use Rattle.base.proofs.List.{list_same}
use Rattle.broadcast.specs.declared.SlotRecord.{SlotRecord}
use Rattle.table.specs.Layout.{layout}
use Rattle.table.specs.Writing.{moved_bytes, move_down}
use Rattle.records.specs.Layout.{part_start, part_of, record_in}
use Rattle.records.specs.Moving.{moved_parts}
use Rattle.retire.specs.Retiring.{retiring, retired_table, retired_records}
use Rattle.watch.specs.Forks.{forks}
use Rattle.history.specs.History.{slot_record}
use Rattle.history.specs.Forks.{forked, NoCollision}
use Rattle.run.specs.Ledger.{Ledger, empty, view_in}
use Rattle.run.specs.Promises.{RetiredClear, history_at}
use Rattle.agreement.proofs.TwoSites.{promised}
use Rattle.cases.specs.Toy.{toy}
use Rattle.cases.specs.Run.{Turn, calls_of, answers_of, ledger_left, site_left, zero_records}
use Rattle.cases.specs.Blocks.{sites, fork, four}
use Rattle.cases.specs.Watch.{naming}
use Rattle.cases.specs.Arrivals.{table_of}
use Rattle.cases.specs.Joins.{rising}
use Rattle.cases.specs.Retiring.{RetiringOrderCases, after_fork, RetirableCases, last_one, three_marked, pair_of, rows_left, rising_numbers, twins, RetiringLeftCases, afterwards, AfterwardsCases, fork_retired, ForkRetiredCases, in_round, makes, round_of, round_turns, GoingOnCases}
use Rattle.cases.proofs.Toy.{toy_digest}
use Rattle.cases.proofs.Computing.{opened_ledger, opened_watch}
use Rattle.cases.proofs.LedgerRun.{told, session, ledger_from, ledger_left_lem, all_marked, marked_interpreted, whole, record_told}
use Rattle.cases.proofs.Premises.{lawful_setup_lem, collision, no_collision}

-- what retiring is computed by
unfoldable opened_retiring : Bool
unfolding opened_watch moved_bytes move_down moved_parts retired_table retired_records table_of rising after_fork last_one three_marked pair_of rows_left rising_numbers twins
opened_retiring = true

unfoldable opened_turns : Bool
unfolding opened_ledger some_in passing_below forked collision after_fork afterwards fork_retired in_round makes round_of round_turns
opened_turns = true

pub order : RetiringOrderCases
unfolding opened_retiring
order =
    record {
      form_before_size = (refl, refl);
      form_before_place = (refl, refl);
      form_before_retirable = (refl, refl);
      size_before_place = (refl, refl);
      size_before_retirable = (refl, refl);
      place_before_retirable = (refl, refl);
    }

pub retirable_cases : RetirableCases
unfolding opened_turns
retirable_cases =
    record {
      not_interpreted = session (sites 4) _ refl refl;
      referrer_not = session (sites 4) _ refl refl;
      no_later = session (sites 4) _ refl refl;
    }

table_left : retired_table three_marked rising_numbers ≡ layout (sites 4) (record { retired = 1; held = 3; row = rows_left })
unfolding opened_retiring
table_left = same_equal (retired_table three_marked rising_numbers) (layout (sites 4) (record { retired = 1; held = 3; row = rows_left })) refl

records_left : retired_records three_marked rising_numbers ≡ part_of rising_numbers 1 ++ (part_of rising_numbers 2 ++ (part_of rising_numbers 3 ++ drop (part_start 3) rising_numbers))
unfolding opened_retiring
records_left = same_equal (retired_records three_marked rising_numbers) (part_of rising_numbers 1 ++ (part_of rising_numbers 2 ++ (part_of rising_numbers 3 ++ drop (part_start 3) rising_numbers))) refl

-- a table and a buffer stay where a number is answered
stays : (t : Bytes) → eqb (retiring t rising_numbers).refusal 0 ≡ false → (retired_table t rising_numbers ≡ t) × (retired_records t rising_numbers ≡ rising_numbers)
unfolding retired_table retired_records
stays t e = (rw e, rw e)

four_stays : (retired_table four rising_numbers ≡ four) × (retired_records four rising_numbers ≡ rising_numbers)
unfolding opened_retiring
four_stays = stays four refl

twin_left : forks (retired_table twins rising_numbers) ≡ naming 0 0 true
unfolding opened_retiring
twin_left = refl

pub left_cases : RetiringLeftCases
unfolding opened_retiring
left_cases =
    record {
      table = table_left;
      records = records_left;
      refused_table = four_stays.0;
      refused_records = four_stays.1;
      named = refl;
      not_named = twin_left;
      three_ancestors = refl;
      two_ancestors = refl;
      referred_before = refl;
      referred_again = refl;
    }

-- ---- ledgers

module _ (turns : List Turn) (e : told (sites 4) empty (calls_of turns) (answers_of turns) ≡ answers_of turns) where
  -- what holds of the ledger computed holds of the ledger
  is_left : ledger_left (sites 4) turns ≡ ledger_from turns
  is_left = ledger_left_lem (sites 4) turns lawful_setup_lem e

pub afterwards_cases : AfterwardsCases
unfolding opened_turns
afterwards_cases =
    record {
      taken = session (sites 4) afterwards refl refl;
      retired_blocks = ap (λ (l : Ledger). l.retired) (is_left afterwards refl);
      blocks = ap (λ (l : Ledger). l.blocks) (is_left afterwards refl);
      not_again = ap (λ (l : Ledger). ((view_in toy l).row 0).refers_to 1) (is_left afterwards refl);
      newly = ap (λ (l : Ledger). ((view_in toy l).row 2).refers_to 1) (is_left afterwards refl);
    }

-- what was retired
fork_retired_lem : (ledger_left (sites 4) fork_retired).retired ≡ fork ∷ []
unfolding opened_turns
fork_retired_lem = ap (λ (l : Ledger). l.retired) (is_left fork_retired refl)

pub fork_retired_cases : ForkRetiredCases
unfolding opened_turns
fork_retired_cases =
    record {
      taken = session (sites 4) fork_retired refl refl;
      still_forked = ap (λ (l : Ledger). forked l.blocks 0) (is_left fork_retired refl);
      still_interpreted = inr (rw fork_retired_lem (Memᴰ.head refl));
    }

-- ---- the campaign that goes on

module _ (turns : List Turn) (e : told (sites 4) empty (calls_of turns) (answers_of turns) ≡ answers_of turns)
    (safe : collision (ledger_from turns).blocks ≡ false) (marks : all_marked (ledger_from turns) 4 ≡ true) where
  -- no two of its blocks share a digest, and so no retired one shares its own
  clear : RetiredClear toy (ledger_left (sites 4) turns)
  clear a b m n =
      let none : NoCollision toy (ledger_left (sites 4) turns).blocks = rw (is_left turns e) (no_collision (ledger_from turns).blocks safe) in
      none a b (((promised toy toy_digest.size (sites 4) lawful_setup_lem zero_records [] (calls_of turns) []).first.placed a).1 (inr m)) n

  record_is : (i : ℕ) → i < 4 → record_in (site_left (sites 4) turns).records i 0 ≡ slot_record (sites 4) 0 (history_at toy (ledger_from turns) i)
  unfolding ledger_from
  record_is i h =
      record_told (sites 4) lawful_setup_lem zero_records (whole 0) (calls_of turns) (answers_of turns) e clear i 0 (omega arith)
      (marked_interpreted (ledger_from turns) 4 marks i h)

abbrev rounds_told : (r : ℕ) → Type 0
rounds_told r = told (sites 4) empty (calls_of (round_turns r)) (answers_of (round_turns r)) ≡ answers_of (round_turns r)

four_told : rounds_told 4
unfolding opened_turns
four_told = refl

three_told : rounds_told 3
unfolding opened_turns
three_told = refl

pub going_on_cases : GoingOnCases
unfolding opened_turns
going_on_cases =
    record {
      taken = session (sites 4) (round_turns 4) lawful_setup_lem four_told;
      held = ap (λ (l : Ledger). l.held) (is_left (round_turns 4) four_told);
      retired_count = ap (λ (l : Ledger). length l.retired) (is_left (round_turns 4) four_told);
      still_delivered = list_same _ _ 4 (λ i h. ap (λ (x : SlotRecord). x.sent.delivered) (record_is (round_turns 4) four_told refl refl i h));
      delivering = list_same _ _ 4 (λ i h. ap (λ (x : SlotRecord). x.made) (record_is (round_turns 3) three_told refl refl i h));
    }
