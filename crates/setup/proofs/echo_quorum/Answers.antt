-- `echo_quorum` meets its contract. Assumes nothing.
use native.Mathlib.Omega.{arith}
use borrow.Author.Rules.{rules}
use Rattle.setup.specs.Setup.{faults, echo_quorum}
use Rattle.setup.proofs.echo_quorum.Goals as goal

pub overflow_mul-result : goal.overflow_mul-result
unfolding faults
overflow_mul-result c = let e = c.faults.ensures in search rules

pub overflow_add-result : goal.overflow_add-result
unfolding faults
overflow_add-result c = let e = c.faults.ensures in search rules

pub returns : goal.returns
unfolding echo_quorum
returns c = omega arith
