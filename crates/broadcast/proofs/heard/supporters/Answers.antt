use mathlib.Core.Path.{sym, ap, ◌∙◌}
use mathlib.Core.Bool.{Bool}
use Prim.Native.Nat.{ℕ, ◌*◌, ◌%◌, ◌^◌}
use native.Mathlib.Omega.{arith}
use lib.Bits.{bit_or}
use lib.Dec.{eqb}
use lib.ListN.{get_or}
use borrow.Author.Rules.{rules}
use borrow.Author.Tests.{eq-eqb, ne_eqb}
use Rattle.base.specs.Mask.{mask_below}
use Rattle.base.proofs.Mask.{mask_put, mask_skip}
use Rattle.broadcast.proofs.heard.supporters.Goals as goal
use Rattle.broadcast.proofs.heard.supporters.Goals.{then-heard-from, else-heard-from}

pub loop-p-init : goal.loop-p-init
unfolding mask_below
loop-p-init c = search rules

pub loop-p-preserved : goal.loop-p-preserved
loop-p-preserved c =
    let l = c.loop-p in
    let a = c.args in
    let f : ℕ → Bool = λ p. eqb (get_or a.heard.now p 0) a.number in
    let at = ap (λ (p : ℕ). eqb (get_or a.heard.now p 0) a.number) (sym c.from.ensures) in
    elim c.if-heard-from.branch [
      | then-heard-from w ↦ w.mask-is ∙ ap (λ (x : ℕ). bit_or x (1 * 2 ^ l.p % 2 ^ 16)) l.invariant ∙ mask_put 16 f l.p (omega arith) (at ∙ eq-eqb _ _ w.if-heard-from.true)
      | else-heard-from w ↦ w.mask-is ∙ l.invariant ∙ mask_skip f l.p (at ∙ ne_eqb _ _ w.if-heard-from.false)
    ]
