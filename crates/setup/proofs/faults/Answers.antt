-- `faults` meets its contract. Assumes nothing.
use mathlib.Core.Path.{◌∙◌, ap}
use Prim.Native.Nat.{ℕ, ◌/◌}
use Rattle.setup.specs.Setup.{faults}
use Rattle.setup.proofs.faults.Goals as goal

pub returns : goal.returns
unfolding faults
returns c = c.from.ensures ∙ ap (λ (n : ℕ). n / 3) c.saturating_sub.ensures
