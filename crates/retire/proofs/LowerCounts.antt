-- Counts of what stands one place lower. Assumes nothing.
use mathlib.Core.Bool.{Bool, false, ◌&&◌}
use mathlib.Core.Path.{◌≡◌}
use Prim.Native.Nat.{ℕ, zero, suc, ◌≤◌}
use native.Mathlib.Omega.{arith}
use lib.Dec.{ltb}
use borrow.Author.Tests.{le-ltb}
use Rattle.base.specs.Count.{count_below}
use Rattle.base.proofs.Tests.{and_right}
use Rattle.base.proofs.Count.{count_first, count_mono}

-- what moved down is counted no more often than before
pub count_moved : (f : ℕ → Bool) (k : ℕ) → count_below (λ j. ltb (suc j) k && f (suc j)) k ≤ count_below f k
unfolding count_below
count_moved f zero = omega arith
count_moved f (suc k) =
    let e = count_first f k in
    let last : ltb (suc k) (suc k) ≡ false = le-ltb (suc k) (suc k) (omega arith) in
    let less = count_mono (λ j. ltb (suc j) (suc k) && f (suc j)) (λ j. f (suc j)) k (λ p h y. and_right (ltb (suc p) (suc k)) (f (suc p)) y) in
    rw last (omega arith)
