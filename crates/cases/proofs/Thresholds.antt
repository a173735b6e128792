-- The thresholds hold. Assumes nothing.
use mathlib.Core.Path.{refl}
use native.Mathlib.Omega.{arith}
use Rattle.cases.specs.Blocks.{sites}
use Rattle.cases.specs.Thresholds.{ThresholdCases}
use Rattle.cases.proofs.Computing.{opened_ledger}
use Rattle.cases.proofs.LedgerRun.{campaign}

pub thresholds : ThresholdCases
unfolding opened_ledger
thresholds =
    record {
      site_counts = refl;
      faults_of = refl;
      echo_quorums = refl;
      ready_amplifications = refl;
      ready_quorums = refl;
      echoes_of_four = campaign (sites 4) 0 _ refl (omega arith) refl refl refl;
      readies_of_four = campaign (sites 4) 0 _ refl (omega arith) refl refl refl;
      readies_of_four_at_once = campaign (sites 4) 0 _ refl (omega arith) refl refl refl;
      echoes_of_seven = campaign (sites 7) 0 _ refl (omega arith) refl refl refl;
      readies_of_seven = campaign (sites 7) 0 _ refl (omega arith) refl refl refl;
      readies_of_seven_at_once = campaign (sites 7) 0 _ refl (omega arith) refl refl refl;
    }
