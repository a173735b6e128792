-- `ancestor_mask` meets its contract. It counts down; the loop's invariant: what is left to gather from `mask` on is what is gathered from the
-- place's own references on. Assumes nothing.
use mathlib.Core.Path.{◌≡◌}
use Prim.Native.Nat.{◌≤◌, ◌<◌}
use Rattle.table.specs.View.{max_places}
use Rattle.table.specs.Layout.{references_at}
use Rattle.watch.specs.Steps.{gathered}
use Rattle.watch.proofs.ancestry.ancestor_mask.Given as goal

abbrev pub invariant-loop-i : goal.invariant-loop-i
invariant-loop-i l = (l.i ≤ l.place) × (l.place < max_places) × (gathered l.table l.i l.mask ≡ gathered l.table l.place (references_at l.table l.place))
