-- The traps are shut out, and each slot goes by its own rules. Assumes nothing.
use mathlib.Core.Path.{refl}
use native.Mathlib.Omega.{arith}
use Rattle.cases.specs.Blocks.{sites}
use Rattle.cases.specs.Traps.{shared_out, TrapCases, SlotCases}
use Rattle.cases.proofs.Computing.{opened_ledger}
use Rattle.cases.proofs.LedgerRun.{campaign}

pub traps : TrapCases
unfolding opened_ledger
traps =
    record {
      distinct_echoes = campaign (sites 4) 0 _ refl (omega arith) refl refl refl;
      distinct_readies = campaign (sites 4) 0 _ refl (omega arith) refl refl refl;
      direct_only = campaign (sites 4) 0 _ refl (omega arith) refl refl refl;
      parent_only = campaign (sites 4) 0 _ refl (omega arith) refl refl refl;
      heard_in_branch = campaign (sites 4) 0 _ refl (omega arith) refl refl refl;
      lower_send_first = campaign (sites 4) 0 _ refl (omega arith) refl refl refl;
      lower_echo_first = campaign (sites 4) 0 _ refl (omega arith) refl refl refl;
      lower_sender_first = campaign (sites 4) 0 _ refl (omega arith) refl refl refl;
      echo_before_ready = campaign (sites 4) 0 _ refl (omega arith) refl refl refl;
    }

pub slots : SlotCases
unfolding opened_ledger
slots =
    record {
      not_owned = campaign shared_out 0 _ refl (omega arith) refl refl refl;
      owned = campaign shared_out 1 _ refl (omega arith) refl refl refl;
      echo_once = campaign (sites 4) 0 _ refl (omega arith) refl refl refl;
    }
