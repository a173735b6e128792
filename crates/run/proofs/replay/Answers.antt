use mathlib.Core.Path.{ap}
use Rattle.run.specs.Run.{Site}
use Rattle.run.proofs.ReplayInvariant.{finished, fewer, goes_on}
use Rattle.run.proofs.replay.Goals as goal

pub loop-call-smaller : goal.loop-call-smaller
loop-call-smaller c = let s = c.in-Some.ensures in fewer _ _ _ _ _ _ _ c.loop-call.invariant s.0 _ _ s.1 s.2

pub loop-call-preserved : goal.loop-call-preserved
loop-call-preserved c =
    let s = c.in-Some.ensures in
    let e = c.run.ensures in
    goes_on _ _ _ _ _ _ _ c.loop-call.invariant s.0 _ _ s.1 s.2 _ _ _ _ e.value e.table_after e.records_after c.put_answer.ensures c.run.auto.table c.run.auto.records c.put_answer.auto.answers

pub returns : goal.returns
returns c = let f = finished _ _ _ _ _ _ _ c.loop-call.invariant c.in_default.ensures in
    record {
      value = f.0;
      table_after = ap (λ (x : Site). x.table) f.1;
      records_after = ap (λ (x : Site). x.records) f.1;
      answers_after = f.2;
    }
