-- `put_others` meets its contract. The loop's invariant: the others among the places passed are put. Assumes nothing.
use mathlib.Core.Path.{◌≡◌}
use Rattle.base.specs.List.{passing_below}
use Rattle.base.specs.Mask.{in_mask}
use Rattle.table.specs.Layout.{view_of}
use Rattle.build.specs.Building.{is_other}
use Rattle.build.specs.Steps.{with_digests}
use Rattle.build.proofs.picking.NextBlock.put_others.Given as goal

abbrev pub invariant-loop-i : goal.invariant-loop-i
invariant-loop-i l =
    l.references ≡ with_digests l.self.own.table.now (passing_below (is_other (in_mask l.self.own.seen) (view_of l.self.own.table.now) l.self.own.site) l.i) l.initial.references
