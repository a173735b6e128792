-- The loop's invariant: where `are_same` stands, the bytes passed are the same, and where not, the two differ. Assumes nothing.
use mathlib.Core.Path.{◌≡◌}
use mathlib.Core.Bool.{true, false}
use Prim.Native.Nat.{ℕ, ◌<◌}
use lib.ListN.{length, get_or}
use Rattle.base.specs.Bytes.{same_bytes}
use Rattle.base.proofs.same.Given as goal

abbrev pub invariant-loop-i : goal.invariant-loop-i
invariant-loop-i l =
    (length l.fn.a ≡ length l.fn.b)
    × (l.are_same ≡ true → (j : ℕ) → j < l.i → get_or l.fn.a j 0 ≡ get_or l.fn.b j 0)
    × (l.are_same ≡ false → same_bytes l.fn.a l.fn.b ≡ false)
