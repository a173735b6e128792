use mathlib.Core.Path.{sym, ap₂, ◌∙◌}
use Prim.Native.Nat.{◌^◌, ◌<◌}
use lib.Bits.{bit_or}
use Rattle.table.specs.View.{max_places}
use Rattle.build.proofs.ReferredMask.{referred_none, referred_here, referred_past}
use Rattle.build.proofs.picking.NextBlock.referred_mask.Goals as goal
use Rattle.build.proofs.picking.NextBlock.referred_mask.Goals.{then-at, else-at}

pub loop-i-preserved : goal.loop-i-preserved
loop-i-preserved c =
    let l = c.loop-i in
    let own = c.args.self.own in
    elim c.if-at.branch [
      | then-at w ↦ let wide : w.references_at-mask.result < 2 ^ max_places = w.references_at-mask.type_inv in
          w.mask-is ∙ ap₂ bit_or l.invariant w.references_at-mask.ensures
          ∙ referred_here own.table.now own.seen own.site l.i (sym c.at.ensures ∙ w.if-at.true) (rw w.references_at-mask.ensures at wide)
      | else-at w ↦ w.mask-is ∙ l.invariant ∙ referred_past own.table.now own.seen own.site l.i (sym c.at.ensures ∙ w.if-at.false)
    ]

pub loop-i-init : goal.loop-i-init
loop-i-init c = let own = c.args.self.own in referred_none own.table.now own.seen own.site
