use mathlib.Core.Path.{◌≡◌, sym, ap, ◌∙◌}
use mathlib.Core.Bool.{true, false}
use Prim.Native.Nat.{ℕ, suc, ◌-◌}
use native.Mathlib.Omega.{arith}
use lib.Bits.{bit_or}
use borrow.Author.Rules.{rules}
use Rattle.base.specs.Mask.{in_mask}
use Rattle.base.specs.Bytes.{Bytes}
use Rattle.table.specs.Layout.{references_at}
use Rattle.watch.specs.Steps.{gathered}
use Rattle.watch.proofs.ancestry.ancestor_mask.Goals as goal

-- one turn: place j adds its references where it is in the mask, and nothing where it is not
turn_adds : (t : Bytes) (j mask : ℕ) → in_mask mask j ≡ true → gathered t j (bit_or mask (references_at t j)) ≡ gathered t (suc j) mask
unfolding gathered
turn_adds t j mask y = rw y

turn_passes : (t : Bytes) (j mask : ℕ) → in_mask mask j ≡ false → gathered t j mask ≡ gathered t (suc j) mask
unfolding gathered
turn_passes t j mask n = rw n

pub loop-i-preserved-then-in_mask : goal.loop-i-preserved-then-in_mask
loop-i-preserved-then-in_mask c =
    let l = c.loop-i in
    let t = c.args.table.now in
    let e : suc (l.i - 1) ≡ l.i = omega arith in (
      omega arith,
      search rules,
      ap (λ (x : ℕ). gathered t (l.i - 1) (bit_or l.mask x)) c.references_at-mask-then-in_mask.ensures
          ∙ turn_adds t (l.i - 1) l.mask (sym c.in_mask.ensures ∙ c.if-in_mask.true)
          ∙ ap (λ (x : ℕ). gathered t x l.mask) e
          ∙ l.invariant.2,
    )

pub loop-i-preserved : goal.loop-i-preserved
loop-i-preserved c =
    let l = c.loop-i in
    let t = c.args.table.now in
    let e : suc (l.i - 1) ≡ l.i = omega arith in (
      omega arith,
      search rules,
      turn_passes t (l.i - 1) l.mask (sym c.in_mask.ensures ∙ c.if-in_mask.false) ∙ ap (λ (x : ℕ). gathered t x l.mask) e ∙ l.invariant.2,
    )

pub returns : goal.returns
unfolding gathered
returns c =
    let l = c.loop-i in
    let e : l.i ≡ 0 = omega arith in
    rw e at l.invariant.2
