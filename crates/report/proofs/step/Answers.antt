-- `step` meets its contract, by what is expected. Assumes nothing.
use Rattle.report.specs.Framing.{step_by, site_by}
use Rattle.report.proofs.step.Goals as goal

pub returns-in-Setup : goal.returns-in-Setup
unfolding step_by site_by
returns-in-Setup c =
    let w = c.setup_step.ensures in record {
      value = rw c.in-Setup.is w.value;
      table_after = rw c.in-Setup.is w.table_after;
      records_after = rw c.in-Setup.is;
    }

pub returns-in-Length : goal.returns-in-Length
unfolding step_by site_by
returns-in-Length c = record {
  value = rw c.in-Length.is c.length_step.ensures;
  table_after = rw c.in-Length.is;
  records_after = rw c.in-Length.is;
}

pub returns-in-Block : goal.returns-in-Block
unfolding step_by
returns-in-Block c =
    let w = c.block_step.ensures in record {
      value = rw c.in-Block.is w.value;
      table_after = rw c.in-Block.is w.table_after;
      records_after = rw c.in-Block.is w.records_after;
    }

pub returns-in-Skip : goal.returns-in-Skip
unfolding step_by site_by
returns-in-Skip c = record {
  value = rw c.in-Skip.is c.skip_step.ensures;
  table_after = rw c.in-Skip.is;
  records_after = rw c.in-Skip.is;
}

pub returns-in-End : goal.returns-in-End
unfolding step_by site_by
returns-in-End c = record {
  value = rw c.in-End.is c.quiet.ensures;
  table_after = rw c.in-End.is;
  records_after = rw c.in-End.is;
}
