-- `is_fork` meets its contract: a print that is new at its site is that of a new sequence number, and else the lower places are looked at.
-- Assumes nothing.
use mathlib.Core.Path.{sym, ap, ap₂, ◌∙◌}
use mathlib.Core.Bool.{Bool}
use Prim.Native.Nat.{ℕ}
use Rattle.base.specs.Mask.{in_mask}
use Rattle.table.specs.Layout.{view_of}
use Rattle.watch.specs.Forks.{everywhere, sequence_repeated_at}
use Rattle.watch.proofs.FullMask.{everywhere_mask}
use Rattle.watch.proofs.ForkPass.{new_sequence}
use Rattle.watch.proofs.sites.is_fork.Goals as goal

pub returns-else-in_mask : goal.returns-else-in_mask
returns-else-in_mask c =
    c.if-in_mask.false
    ∙ sym (new_sequence c.args.table.now c.args.i
    (sym (c.in_mask.ensures ∙ ap₂ in_mask c.requires.1 c.sequence_print.ensures) ∙ c.if-in_mask.false))

pub returns-then-in_mask : goal.returns-then-in_mask
returns-then-in_mask c =
    let v = view_of c.args.table.now in
    c.repeats.ensures
    ∙ ap (λ (seen : ℕ → Bool). sequence_repeated_at v seen c.site_at.result c.args.i) everywhere_mask
    ∙ ap (λ (site : ℕ). sequence_repeated_at v everywhere site c.args.i) c.site_at.ensures
