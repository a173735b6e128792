-- `supporters` meets its contract. The loop's invariant: `mask` is that of the sites passed. Assumes nothing.
use mathlib.Core.Path.{◌≡◌}
use Rattle.broadcast.specs.Process.{supporters}
use Rattle.broadcast.proofs.heard.supporters.Given as goal

abbrev pub invariant-loop-p : goal.invariant-loop-p
invariant-loop-p l = l.mask ≡ supporters l.p l.heard l.number
