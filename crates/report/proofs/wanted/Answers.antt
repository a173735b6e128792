-- `wanted` meets its contract, by what is expected. Assumes nothing.
use mathlib.Core.Path.{refl}
use native.Mathlib.Omega.{arith}
use Rattle.report.specs.Framing.{wanted_by}
use Rattle.report.proofs.wanted.Goals as goal

pub returns-in-Setup : goal.returns-in-Setup
unfolding wanted_by
returns-in-Setup c = rw c.in-Setup.is (refl, omega arith)

pub returns-in-Length : goal.returns-in-Length
unfolding wanted_by
returns-in-Length c = rw c.in-Length.is (refl, omega arith)

pub returns-in-Block : goal.returns-in-Block
unfolding wanted_by
returns-in-Block c = rw c.in-Block.is (omega (arith, c.min.ensures), omega (arith, c.min.ensures))

pub returns-in-Skip : goal.returns-in-Skip
unfolding wanted_by
returns-in-Skip c = rw c.in-Skip.is (omega (arith, c.min-in-Skip.ensures), omega (arith, c.min-in-Skip.ensures))

pub returns-in-End : goal.returns-in-End
unfolding wanted_by
returns-in-End c = rw c.in-End.is (refl, omega arith)
