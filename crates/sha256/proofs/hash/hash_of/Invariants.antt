-- `hash_of` meets its contract. The loop's invariant: `v` is the hash value after the first i blocks.
-- Assumes nothing.
use mathlib.Core.Path.{◌≡◌}
use Rattle.sha256.specs.Sha256.{hash}
use Rattle.sha256.proofs.hash.hash_of.Given as goal

abbrev pub invariant-loop-i : goal.invariant-loop-i
invariant-loop-i l = l.v ≡ hash l.initial.v l.m l.i
