-- `referred_mask` meets its contract. The loop's invariant: `mask` has what the site's blocks at the places passed refer to. Assumes nothing.
use mathlib.Core.Path.{◌≡◌}
use Rattle.build.proofs.ReferredMask.{referred_below}
use Rattle.build.proofs.picking.NextBlock.referred_mask.Given as goal

abbrev pub invariant-loop-i : goal.invariant-loop-i
invariant-loop-i l = l.mask ≡ referred_below l.self.own.table.now l.self.own.seen l.self.own.site l.i
