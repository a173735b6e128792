-- `digits` meets its contract: each turn sets the last digit of the rest before those that stand. Assumes nothing.
use mathlib.Core.Path.{◌≡◌, refl, sym, ap, ◌∙◌}
use mathlib.Core.List.{[], ◌∷◌, ◌++◌, append_assoc}
use Prim.Native.Nat.{ℕ, zero, suc, ◌+◌, ◌-◌, ◌/◌, ◌%◌, ◌^◌, ◌≤◌, ◌<◌}
use native.Mathlib.Nat.{le_of_suc-le-suc}
use native.Mathlib.Omega.{arith}
use borrow.Author.Rules.{rules}
use mathlib.Core.Bool.{cond}
use lib.Dec.{eqb}
use lib.ListN.{length, drop, set, length-append, length-set}
use Rattle.base.specs.Bytes.{Bytes}
use Rattle.report.specs.Text.{digit, decimal}
use Rattle.report.proofs.Decimal.{leading, last_apart, leading_apart, decimal_short}
use Rattle.report.proofs.lines.digits.Goals as goal

drop_set : (l : Bytes) (j v : ℕ) → j < length l → drop j (set l j v) ≡ v ∷ drop (suc j) l
drop_set [] j v h = absurd (omega arith)
drop_set (x ∷ l) zero v h = refl
drop_set (x ∷ l) (suc j) v h = drop_set l j v (le_of_suc-le-suc h)

-- one turn
turn : (n rest start : ℕ) (bytes : Bytes) → 0 < rest → 1 ≤ start → start ≤ length bytes → leading rest ++ drop start bytes ≡ decimal n
    → leading (rest / 10) ++ drop (start - 1) (set bytes (start - 1) (digit (rest % 10))) ≡ decimal n
turn n rest start bytes some low high e =
    let k : suc (start - 1) ≡ start = omega arith in
    rw (drop_set bytes (start - 1) (digit (rest % 10)) (omega arith), k) (
    sym (append_assoc (leading (rest / 10)) (digit (rest % 10) ∷ []) (drop start bytes))
    ∙ ap (λ (x : Bytes). x ++ drop start bytes) (sym (leading_apart rest some)) ∙ e)

shorter : (n : ℕ) → 0 < n → length (leading n) ≡ length (leading (n / 10)) + 1
shorter n h = ap length (leading_apart n h) ∙ length-append (leading (n / 10)) (digit (n % 10) ∷ [])

fits : (n : ℕ) → n < 2 ^ 64 → length (leading (n / 10)) ≤ 19
fits n h =
    let l : length (decimal n) ≡ length (leading (n / 10)) + 1 = ap length (last_apart n) ∙ length-append (leading (n / 10)) (digit (n % 10) ∷ []) in
    omega (arith, decimal_short 19 n (omega arith))

pub loop-rest-preserved : goal.loop-rest-preserved
loop-rest-preserved c =
    let l = c.loop-rest in
    let e : length (leading l.rest) ≡ length (leading (l.rest / 10)) + 1 = shorter l.rest (omega arith) in (
      turn c.args.n l.rest l.start l.bytes (omega arith) (omega arith) (omega arith) l.invariant.0,
      omega arith,
      omega arith,
      length-set l.bytes (l.start - 1) (digit (l.rest % 10)) ∙ l.invariant.3,
    )

-- nothing is left before the digits
pub returns : goal.returns
unfolding leading
returns c = let l = c.loop-rest in
    let none : l.rest ≡ 0 = omega arith in
    record {
      start_le_max_digits = omega arith;
      bytes_value = sym (ap (λ (r : ℕ). cond (eqb r 0) [] (decimal r) ++ drop l.start l.bytes) none) ∙ l.invariant.0;
    }

pub loop-rest-init : goal.loop-rest-init
loop-rest-init c = (sym (last_apart c.args.n), fits c.args.n (omega arith), omega arith, search rules)

pub overflow_sub-start-in-loop-rest : goal.overflow_sub-start-in-loop-rest
overflow_sub-start-in-loop-rest c = omega (arith, shorter c.loop-rest.rest (omega arith))
