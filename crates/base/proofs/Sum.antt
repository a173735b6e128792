-- Laws of sums: one turn of the loop that adds, functions that agree, and one value taken out. Assumes nothing.
use mathlib.Core.Path.{◌≡◌, refl, ap, ap₂}
use mathlib.Core.Bool.{cond, false}
use mathlib.Core.Logic.{◌≢◌}
use Prim.Native.Nat.{ℕ, zero, suc, ◌+◌, ◌<◌}
use native.Mathlib.Numerals.{add-one}
use native.Mathlib.Omega.{arith}
use lib.Dec.{eqb}
use borrow.Author.Tests.{eqb-true, eqb-false, ne_eqb}
use Rattle.base.specs.Count.{sum_below}
use Rattle.base.proofs.Tests.{by_test}

pub sum_more : (f : ℕ → ℕ) (k : ℕ) → sum_below f (k + 1) ≡ f k + sum_below f k
unfolding sum_below
sum_more f k = ap (sum_below f) (add-one k)

pub sum_same : (f g : ℕ → ℕ) (k : ℕ) → ((j : ℕ) → j < k → f j ≡ g j) → sum_below f k ≡ sum_below g k
unfolding sum_below
sum_same f g zero h = refl
sum_same f g (suc k) h = ap₂ ◌+◌ (h k (omega arith)) (sum_same f g k (λ j l. h j (omega arith)))

-- the sum without the value at c, and that value
pub sum_without : (f : ℕ → ℕ) (c k : ℕ) → c < k → sum_below f k ≡ sum_below (λ j. cond (eqb j c) 0 (f j)) k + f c
unfolding sum_below
sum_without f c zero h = absurd (omega arith)
sum_without f c (suc k) h =
    by_test (eqb k c)
    (λ y.
    let e : k ≡ c = eqb-true k c y in
    let same = sum_same f (λ j. cond (eqb j c) 0 (f j)) k (λ j l. let n : eqb j c ≡ false = ne_eqb j c (λ q. omega arith) in rw n) in
    let here : f k ≡ f c = ap f e in
    rw y (omega (arith, same, here)))
    (λ n. let o : k ≢ c = eqb-false k c n in rw n (omega (arith, sum_without f c k (omega arith))))
