-- The cases of interpretation's checks hold. Assumes nothing.
use mathlib.Core.Path.{refl}
use Rattle.cases.specs.Blocks.{sites}
use Rattle.cases.specs.Interpretation.{InterpretationOrderCases, InterpretationValueCases}
use Rattle.cases.proofs.Computing.{opened_ledger, opened_table}
use Rattle.cases.proofs.LedgerRun.{session}

pub order : InterpretationOrderCases
unfolding opened_ledger opened_table
order =
    record {
      form_before_size = (refl, refl);
      form_before_place = (refl, refl);
      form_before_mark = (refl, refl);
      form_before_reference = (refl, refl);
      size_before_place = (refl, refl);
      size_before_mark = (refl, refl);
      size_before_reference = (refl, refl);
      place_or_mark = session (sites 4) _ refl refl;
      mark_or_reference = session (sites 4) _ refl refl;
    }

pub values : InterpretationValueCases
unfolding opened_ledger opened_table
values = record { size_above = refl; size_none = refl; lowest_reference = session (sites 4) _ refl refl }
