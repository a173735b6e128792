-- `ready_amplification` meets its contract. Assumes nothing.
use native.Mathlib.Omega.{arith}
use borrow.Author.Rules.{rules}
use Rattle.setup.specs.Setup.{faults, ready_amplification}
use Rattle.setup.proofs.ready_amplification.Goals as goal

pub overflow_add-result : goal.overflow_add-result
unfolding faults
overflow_add-result c = let e = c.faults.ensures in search rules

pub returns : goal.returns
unfolding ready_amplification
returns c = omega arith
