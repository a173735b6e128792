-- The rows of one slot's process hold. Assumes nothing.
use mathlib.Core.Path.{refl}
use native.Mathlib.Omega.{arith}
use Rattle.cases.specs.Blocks.{sites}
use Rattle.cases.specs.Traps.{shared_out}
use Rattle.cases.specs.Process.{silent, asks_later, hears_later, branching, branching_on, ready_of_two, echoes_of_others, three_readies_two_echoes, ready_of_one, other_of_one, other_of_two, after_third, other_readying_three, after_readying_three, on_first, on_all, after_readying, in_own_slot, aside, ProcessCases}
use Rattle.cases.proofs.Computing.{opened_ledger}
use Rattle.cases.proofs.LedgerRun.{campaign}

pub process : ProcessCases
unfolding opened_ledger silent asks_later hears_later branching branching_on ready_of_two echoes_of_others three_readies_two_echoes ready_of_one other_of_one other_of_two after_third
    other_readying_three after_readying_three on_first on_all after_readying in_own_slot aside
process =
    record {
      later_request = campaign (sites 4) 0 _ refl (omega arith) refl refl refl;
      request_after_echo = campaign (sites 4) 0 _ refl (omega arith) refl refl refl;
      echoes_and_ready = campaign (sites 4) 0 _ refl (omega arith) refl refl refl;
      ready_then_echoes = campaign (sites 4) 0 _ refl (omega arith) refl refl refl;
      readies_and_echo = campaign (sites 4) 0 _ refl (omega arith) refl refl refl;
      readies_then_echoes = campaign (sites 7) 0 _ refl (omega arith) refl refl refl;
      other_ready = campaign (sites 4) 0 _ refl (omega arith) refl refl refl;
      ready_and_delivery = campaign (sites 1) 0 _ refl (omega arith) refl refl refl;
      own_other = campaign (sites 1) 0 _ refl (omega arith) refl refl refl;
      ready_for_another = campaign (sites 4) 0 _ refl (omega arith) refl refl refl;
      delivered_for_another = campaign (sites 4) 0 _ refl (omega arith) refl refl refl;
      other_delivered = campaign (sites 4) 0 _ refl (omega arith) refl refl refl;
      echo_after_ready = campaign (sites 4) 0 _ refl (omega arith) refl refl refl;
      echo_after_delivery = campaign (sites 4) 0 _ refl (omega arith) refl refl refl;
      echo_after_echoes = campaign (sites 4) 0 _ refl (omega arith) refl refl refl;
      parent_of_site = campaign (sites 4) 0 _ refl (omega arith) refl refl refl;
      without_parent = campaign (sites 4) 0 _ refl (omega arith) refl refl refl;
      both_heard = campaign (sites 4) 0 _ refl (omega arith) refl refl refl;
      sent_before = campaign (sites 4) 0 _ refl (omega arith) refl refl refl;
      owner_of_slot = campaign shared_out 1 _ refl (omega arith) refl refl refl;
    }
