use mathlib.Core.Path.{◌≡◌, refl, ap₂, ◌∙◌}
use Prim.Native.Nat.{max}
use native.Mathlib.Numerals.{add-one}
use native.Mathlib.Omega.{arith}
use Rattle.build.specs.Building.{greatest_below, next_sequence}
use Rattle.build.proofs.next.next_sequence.Goals as goal

pub loop-i-init : goal.loop-i-init
unfolding greatest_below
loop-i-init c = refl

pub loop-i-preserved : goal.loop-i-preserved
unfolding greatest_below
loop-i-preserved c = rw (add-one c.loop-i.i) (c.max-next.ensures ∙ ap₂ max c.sequence_after.ensures c.loop-i.invariant)

pub returns : goal.returns
unfolding next_sequence
returns c = let l = c.loop-i in let e : l.i ≡ c.count_of-i-end.result = omega arith in rw (e, c.count_of-i-end.ensures) at l.invariant
