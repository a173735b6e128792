-- The toy digest has the length of a digest. Assumes nothing.
use mathlib.Core.Path.{◌≡◌, refl}
use mathlib.Core.List.{◌++◌}
use Prim.Native.Nat.{ℕ, ◌≤◌}
use native.Mathlib.Omega.{arith}
use lib.ListN.{length, take, replicate, length-append}
use lib.Seq.{length-take-le}
use Rattle.base.specs.Bytes.{Bytes}
use Rattle.block.specs.Limits.{reference_size}
use Rattle.cases.specs.Toy.{seen, toy, ToyDigest}

-- what is cut is long enough: its last part alone is
cut : (a z : Bytes) (n : ℕ) → length z ≡ n → length (take n (a ++ z)) ≡ n
cut a z n e = let enough : n ≤ length (a ++ z) = omega (arith, length-append a z, e) in length-take-le n (a ++ z) enough

pub toy_digest : ToyDigest
unfolding toy
toy_digest = record { size = λ b. cut (seen b) (replicate reference_size 0) reference_size refl }
