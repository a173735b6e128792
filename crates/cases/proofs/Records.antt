-- The numbers of records in the buffer are those written out. Assumes nothing.
use mathlib.Core.Path.{◌≡◌, refl, ◌∙◌}
use mathlib.Core.Bool.{true}
use mathlib.Core.List.{List}
use Prim.Native.Nat.{ℕ, ◌<◌}
use native.Mathlib.Omega.{arith}
use lib.ListN.{length}
use Rattle.answer.specs.declared.Answer.{Answer}
use Rattle.setup.specs.Setup.{Setup, lawful, slot_count}
use Rattle.records.specs.Layout.{flatten}
use Rattle.history.specs.History.{slot_record}
use Rattle.run.specs.Ledger.{Call, empty}
use Rattle.run.specs.Promises.{history_at}
use Rattle.cases.specs.Toy.{toy}
use Rattle.cases.specs.Run.{zero_records, Step, calls_of, answers_of, arriving}
use Rattle.cases.specs.Blocks.{sites}
use Rattle.cases.specs.Traps.{shared_out}
use Rattle.cases.specs.Records.{Numbers, chain_of_four, hears_all, mixed, in_slot_five, RecordCases}
use Rattle.cases.proofs.Computing.{opened_ledger}
use Rattle.cases.proofs.LedgerRun.{told, ledger_from, all_marked, marked_interpreted, whole, arriving_unretired, unretired_told, numbers_told}

-- computed in three: the answers, the marks, and the numbers of the block's meaning
numbers : (s : Setup) (steps : List Step) (place slot : ℕ) (ns : List ℕ) → lawful s ≡ true → slot < slot_count → place < length steps
    → told s empty (calls_of (arriving 0 steps)) (answers_of (arriving 0 steps)) ≡ answers_of (arriving 0 steps)
    → all_marked (ledger_from (arriving 0 steps)) (length steps) ≡ true
    → flatten (slot_record s slot (history_at toy (ledger_from (arriving 0 steps)) place)) ≡ ns
    → Numbers s steps place slot ns
unfolding ledger_from
numbers s steps place slot ns law h l e marks shown =
    record {
      written =
          numbers_told s law zero_records (whole 0) calls answers e
          (unretired_told s law zero_records (whole 0) calls answers e (arriving_unretired empty 0 steps)) place slot h
          (marked_interpreted (ledger_from (arriving 0 steps)) (length steps) marks place l)
          ∙ shown;
    }
  where
    calls : List Call
    calls = calls_of (arriving 0 steps)

    answers : List Answer
    answers = answers_of (arriving 0 steps)

pub records : RecordCases
unfolding opened_ledger flatten chain_of_four hears_all mixed in_slot_five
records =
    record {
      record_numbers = refl;
      place_numbers = refl;
      buffer_numbers = refl;
      send_made = numbers (sites 1) chain_of_four 0 0 _ refl (omega arith) (omega arith) refl refl refl;
      echo_made = numbers (sites 1) chain_of_four 1 0 _ refl (omega arith) (omega arith) refl refl refl;
      ready_made = numbers (sites 1) chain_of_four 2 0 _ refl (omega arith) (omega arith) refl refl refl;
      delivery_made = numbers (sites 1) chain_of_four 3 0 _ refl (omega arith) (omega arith) refl refl refl;
      heard_from_each = numbers (sites 4) mixed 11 0 _ refl (omega arith) (omega arith) refl refl refl;
      slot_five = numbers shared_out in_slot_five 1 5 _ refl (omega arith) (omega arith) refl refl refl;
      slot_one = numbers shared_out in_slot_five 1 1 _ refl (omega arith) (omega arith) refl refl refl;
    }
