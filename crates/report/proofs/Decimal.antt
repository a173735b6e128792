-- A number's decimal digits with the last one set apart, which is how `digits` finds them, and how many they are. Assumes nothing.
use mathlib.Core.Path.{◌≡◌, ap, ◌∙◌}
use mathlib.Core.Bool.{cond}
use mathlib.Core.List.{[], ◌∷◌, ◌++◌}
use Prim.Native.Nat.{ℕ, zero, suc, ◌*◌, ◌/◌, ◌%◌, ◌^◌, ◌≤◌, ◌<◌}
use native.Mathlib.Nat.{pow-suc}
use native.Mathlib.Omega.{arith}
use borrow.Author.Tests.{ltb-true, ltb-false, lt-ltb, le-ltb, ne_eqb}
use lib.Dec.{eqb, ltb}
use lib.ListN.{length, length-append}
use Rattle.base.specs.Bytes.{Bytes}
use Rattle.base.proofs.Tests.{by_test}
use Rattle.report.specs.Text.{digit, digits, decimal}

-- the digits are the same, however many more there might be
digits_enough : (j k n : ℕ) → n < j → n < k → digits j n ≡ digits k n
unfolding digits
digits_enough zero k n h g = absurd (omega arith)
digits_enough (suc j) zero n h g = absurd (omega arith)
digits_enough (suc j) (suc k) n h g =
    by_test (ltb n 10)
    (λ e. rw (e, digits))
    (λ e.
    let many : 10 ≤ n = ltb-false n 10 e in
    rw (e, digits) (ap (λ (x : Bytes). x ++ (digit (n % 10) ∷ [])) (digits_enough j k (n / 10) (omega arith) (omega arith))))

decimal_one : (n : ℕ) → n < 10 → decimal n ≡ digit n ∷ []
unfolding decimal digits
decimal_one n h = rw (lt-ltb n 10 h, decimal, digits)

decimal_more : (n : ℕ) → 10 ≤ n → decimal n ≡ decimal (n / 10) ++ (digit (n % 10) ∷ [])
unfolding decimal digits
decimal_more n h =
    rw (le-ltb n 10 h, decimal, digits) (ap (λ (x : Bytes). x ++ (digit (n % 10) ∷ [])) (digits_enough n (suc (n / 10)) (n / 10) (omega arith) (omega arith)))

-- the digits before the last one: none of 0
unfoldable pub leading : ℕ → Bytes
leading n = cond (eqb n 0) [] (decimal n)

leading_some : (n : ℕ) → 0 < n → leading n ≡ decimal n
unfolding leading
leading_some n h = rw (ne_eqb n 0 (λ q. omega arith))

pub last_apart : (n : ℕ) → decimal n ≡ leading (n / 10) ++ (digit (n % 10) ∷ [])
unfolding leading
last_apart n =
    by_test (ltb n 10)
    (λ e.
    let few : n < 10 = ltb-true n 10 e in
    let none : n / 10 ≡ 0 = omega arith in
    let last : n % 10 ≡ n = omega arith in
    decimal_one n few ∙ rw (none, last))
    (λ e.
    let many : 10 ≤ n = ltb-false n 10 e in
    decimal_more n many ∙ rw (ne_eqb (n / 10) 0 (λ q. omega arith)))

pub leading_apart : (n : ℕ) → 0 < n → leading n ≡ leading (n / 10) ++ (digit (n % 10) ∷ [])
leading_apart n h = leading_some n h ∙ last_apart n

-- a number below a power of ten has no more digits than it says
pub decimal_short : (k n : ℕ) → n < 10 ^ suc k → length (decimal n) ≤ suc k
decimal_short zero n h = rw (decimal_one n h) (omega arith)
decimal_short (suc k) n h =
    by_test (ltb n 10)
    (λ e. rw (decimal_one n (ltb-true n 10 e)) (omega arith))
    (λ e.
    let p : n < 10 ^ suc k * 10 = rw (← pow-suc 10 (suc k)) h in
    let l : length (decimal (n / 10)) ≤ suc k = decimal_short k (n / 10) (omega arith) in
    rw (decimal_more n (ltb-false n 10 e), length-append) (omega arith))
