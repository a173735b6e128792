-- `put_answer` meets its contract: two numbers are put where they fit. Assumes nothing.
use Prim.Native.Nat.{ℕ, ◌+◌, ◌*◌, ◌/◌, ◌≤◌, ◌<◌}
use native.Mathlib.Omega.{arith}
use borrow.Author.Tests.{le-leb, lt-leb}
use Rattle.answer.specs.Buffer.{put_answer}
use Rattle.answer.proofs.put_answer.Goals as goal

-- two more numbers fit behind 2 i where i is below the half
fits : (i n : ℕ) → i < n / 2 → 2 * i + 2 ≤ n
fits i n h = omega arith

lost : (i n : ℕ) → n / 2 ≤ i → n < 2 * i + 2
lost i n h = omega arith

pub returns-then-i-answers : goal.returns-then-i-answers
unfolding put_answer
returns-then-i-answers c = rw (le-leb _ _ (fits _ _ c.if-i-answers.true), ← c.from.ensures) c.put.ensures

pub returns-else-i-answers : goal.returns-else-i-answers
unfolding put_answer
returns-else-i-answers c = rw (lt-leb _ _ (lost _ _ c.if-i-answers.false))
