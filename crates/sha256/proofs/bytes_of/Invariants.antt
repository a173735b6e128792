-- `bytes_of` meets its contract. The loop's invariant: the first 4 * i bytes are those of the first i words.
-- Assumes nothing.
use Prim.Native.Nat.{◌*◌}
use mathlib.Core.Path.{◌≡◌}
use lib.ListN.{length, take}
use Rattle.sha256.specs.Sha256.{word_bytes}
use Rattle.sha256.proofs.bytes_of.Given as goal

abbrev pub invariant-loop-i : goal.invariant-loop-i
invariant-loop-i l = (length l.out ≡ 32) × (take (4 * l.i) l.out ≡ word_bytes (take l.i l.word-items))
