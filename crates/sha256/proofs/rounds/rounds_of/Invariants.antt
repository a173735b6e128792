-- `rounds_of` meets its contract. The loop's invariant: `v` is the state after four rounds for each turn.
-- Assumes nothing.
use Prim.Native.Nat.{◌*◌}
use mathlib.Core.Path.{◌≡◌}
use Rattle.sha256.specs.Sha256.{rounds}
use Rattle.sha256.proofs.rounds.rounds_of.Given as goal

abbrev pub invariant-loop-turn : goal.invariant-loop-turn
invariant-loop-turn l = l.v ≡ rounds l.initial.v l.w (4 * l.turn)
