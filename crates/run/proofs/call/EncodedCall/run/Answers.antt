-- `run` meets its contract: each kind of call is the one that its name says. Assumes nothing.
use mathlib.Core.Path.{◌∙◌}
use Rattle.run.specs.Run.{site_answer, site_step}
use Rattle.run.proofs.call.EncodedCall.run.Goals as goal

pub returns-in-Admission : goal.returns-in-Admission
unfolding site_answer site_step
returns-in-Admission c = let e = c.admit.ensures in record {
  value = rw c.in-Admission.is (c.from.ensures ∙ e.value);
  table_after = rw c.in-Admission.is e.table_after;
  records_after = rw c.in-Admission.is;
}

pub returns-in-Interpretation : goal.returns-in-Interpretation
unfolding site_answer site_step
returns-in-Interpretation c = let e = c.interpret.ensures in record {
  value = rw c.in-Interpretation.is (c.from-in-Interpretation.ensures ∙ e.value);
  table_after = rw c.in-Interpretation.is e.table_after;
  records_after = rw c.in-Interpretation.is e.records_after;
}

pub returns-in-Retiring : goal.returns-in-Retiring
unfolding site_answer site_step
returns-in-Retiring c = let e = c.retire.ensures in record {
  value = rw c.in-Retiring.is (c.from-in-Retiring.ensures ∙ e.value);
  table_after = rw c.in-Retiring.is e.table_after;
  records_after = rw c.in-Retiring.is e.records_after;
}

pub returns-in-TakingBack : goal.returns-in-TakingBack
unfolding site_answer site_step
returns-in-TakingBack c = let e = c.take_back.ensures in record {
  value = rw c.in-TakingBack.is (c.from-in-TakingBack.ensures ∙ e.value);
  table_after = rw c.in-TakingBack.is e.table_after;
  records_after = rw c.in-TakingBack.is;
}
