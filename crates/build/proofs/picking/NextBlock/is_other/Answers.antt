-- `is_other` meets its contract: the mask has what the site's blocks refer to. Assumes nothing.
use mathlib.Core.Path.{sym, ap, ◌∙◌}
use mathlib.Core.Bool.{not}
use Prim.Native.Nat.{ℕ}
use Rattle.base.specs.Mask.{in_mask}
use Rattle.base.proofs.Sets.{mask_has}
use Rattle.table.specs.View.{max_places}
use Rattle.build.proofs.picking.NextBlock.is_other.Goals as goal
use Rattle.build.proofs.picking.NextBlock.is_other.Goals.{then-in_mask, else-in_mask}

pub returns-then-site_at-self : goal.returns-then-site_at-self
returns-then-site_at-self c =
    let i = c.args.i in
    elim c.if-in_mask.branch [
      | then-in_mask w ↦ rw (sym c.in_mask.ensures ∙ w.if-in_mask.true, ← w.site_at.ensures, sym w.value-is ∙ c.if-site_at-self.true)
          (ap not (c.in_mask-then-site_at-self.ensures ∙ ap (λ (m : ℕ). in_mask m i) c.requires.1 ∙ mask_has _ max_places i c.requires.0))
      | else-in_mask w ↦ absurd (cc)
    ]
