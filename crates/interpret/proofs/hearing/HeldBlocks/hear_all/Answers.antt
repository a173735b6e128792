-- `hear_all` meets its contract: the messages of one kind after those of the other. Assumes nothing.
use native.Mathlib.Omega.{arith}
use Rattle.records.proofs.EntryCounts.{held_sized}
use Rattle.interpret.specs.Steps.{directs_of}
use Rattle.interpret.proofs.Turns.{heard_kinds}
use Rattle.interpret.proofs.hearing.HeldBlocks.hear_all.Goals as goal

pub returns : goal.returns
returns c =
    let a = c.args in
    let ds = directs_of a.self.table.now a.self.places.now a.self.records.now a.self.slot in
    rw (← c.sites_of-n.ensures, ← c.owner_of-owner.ensures)
    (heard_kinds c.sites_of-n.result c.owner_of-owner.result ds (omega (arith, c.sites_of-n.ensures, c.requires.few)) _ _ _ c.lowest-low.ensures.sends_value c.lowest-low.ensures.echoes_value c.lowest-low.ensures.readies_value
    a.state (held_sized a.state c.well_formed.1.0) _ _ _ c.hear-sent.ensures c.hear-echoed.ensures c.hear.ensures)
