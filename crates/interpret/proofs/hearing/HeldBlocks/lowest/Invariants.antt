-- `lowest` meets its contract. The loop's invariant: each list is of the places passed. Assumes nothing.
use mathlib.Core.Path.{◌≡◌}
use Rattle.broadcast.specs.declared.Kind.TheVariants.{Send, Echo, Ready}
use Rattle.table.specs.Layout.{view_of}
use Rattle.interpret.specs.Steps.{directs_first, lowest_in}
use Rattle.interpret.proofs.hearing.HeldBlocks.lowest.Given as goal

abbrev pub invariant-loop-place : goal.invariant-loop-place
invariant-loop-place l = record {
  sends : l.low.sends ≡ lowest_in Send (directs_first (view_of l.self.table.now) l.self.records.now l.self.slot l.self.places.now l.place-index);
  echoes : l.low.echoes ≡ lowest_in Echo (directs_first (view_of l.self.table.now) l.self.records.now l.self.slot l.self.places.now l.place-index);
  readies : l.low.readies ≡ lowest_in Ready (directs_first (view_of l.self.table.now) l.self.records.now l.self.slot l.self.places.now l.place-index);
}
