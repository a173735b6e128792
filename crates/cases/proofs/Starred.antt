-- The starred cases hold. Assumes nothing.
use mathlib.Core.Path.{refl}
use native.Mathlib.Omega.{arith}
use Rattle.cases.specs.Blocks.{sites}
use Rattle.cases.specs.Starred.{StarredCases}
use Rattle.cases.proofs.Computing.{opened_ledger}
use Rattle.cases.proofs.LedgerRun.{site_answers_lem, campaign}

pub starred : StarredCases
unfolding opened_ledger
starred =
    record {
      nothing_held = site_answers_lem (sites 4) refl _ _ refl;
      chain = campaign (sites 1) 0 _ refl (omega arith) refl refl refl;
      thirteen_blocks = campaign (sites 4) 0 _ refl (omega arith) refl refl refl;
      echoes_heard = campaign (sites 4) 0 _ refl (omega arith) refl refl refl;
      readies_heard = campaign (sites 4) 0 _ refl (omega arith) refl refl refl;
      fork_heard = campaign (sites 4) 0 _ refl (omega arith) refl refl refl;
      other_requests = campaign (sites 4) 0 _ refl (omega arith) refl refl refl;
      second_request = campaign (sites 4) 0 _ refl (omega arith) refl refl refl;
      without_one_parent = (site_answers_lem (sites 4) refl _ _ refl, site_answers_lem (sites 4) refl _ _ refl);
    }
