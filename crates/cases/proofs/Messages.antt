-- The rows of single messages hold. Assumes nothing.
use mathlib.Core.Path.{refl}
use Rattle.cases.specs.Messages.{MessageCases}
use Rattle.cases.proofs.Computing.{opened_ledger}

pub messages : MessageCases
unfolding opened_ledger
messages =
    record {
      send_of_other = λ r. refl;
      no_number = λ r kind. refl;
      sender_four = λ r kind. refl;
      sender_last = λ r kind. refl;
      seventeen_sites = λ r kind. refl;
      echo_one_short = refl;
      ready_one_short = refl;
      delivery_one_short = refl;
      ready_though_delivered = refl;
      noted_though_delivered = refl;
    }
