-- `extend` meets its contract. The loop's invariant: the first t words are the schedule's, and `a` and `b` are the last two of them.
-- Assumes nothing.
use Prim.Native.Nat.{◌-◌}
use mathlib.Core.Path.{◌≡◌}
use lib.ListN.{length, take, get_or}
use Rattle.sha256.specs.Sha256.{schedule}
use Rattle.sha256.proofs.schedule.extend.Given as goal

abbrev pub invariant-loop-t : goal.invariant-loop-t
invariant-loop-t l = (length l.w ≡ 64) × (l.a ≡ get_or l.w (l.t - 2) 0) × (l.b ≡ get_or l.w (l.t - 1) 0) × (take l.t l.w ≡ schedule (take 16 l.initial.w) (l.t - 16))
