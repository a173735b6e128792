-- Request Three: "After each admission of an arrival the campaign's waiting blocks are tried in passes, in the order they came, until a pass
-- admits none; one refused by another number than 9 is dropped". A try is an admission with verdict 1.
use Rattle.std.specs.Prelude.{Bool, cond, List, [], ◌∷◌, ◌++◌, ℕ, zero, suc, eqb, length}
use Rattle.base.specs.Bytes.{Bytes}
use Rattle.base.specs.List.{some_in}
use Rattle.answer.specs.declared.Answer.{Answer}
use Rattle.answer.specs.Checks.{refused}
use Rattle.shelf.specs.Layout.{Waiting}
use Rattle.shelf.specs.Rules.{is_for}
use Rattle.admission.specs.Admission.{admission, admitted}

-- a waiting block that was tried, and what admission answered
pub record Try : Type 0 where
  pub block : Bytes
  pub answer : Answer

-- a waiting block that is tried waits on exactly if admission answers 9; else it is let in or dropped
abbrev pub waits_on : Answer → Bool
waits_on a = eqb a.refusal 9

-- the block was let in
abbrev pub let_in : Try → Bool
let_in y = eqb y.answer.refusal 0

-- "The answer lists, in the order tried, the place of each block let in and the number of each dropped": an outcome is refusal 0 with the place, or
-- the refusal's number with the value 0. A block that waits on has no outcome
abbrev pub outcome : Answer → Answer
outcome a = cond (eqb a.refusal 0) a (refused a.refusal 0)

unfoldable pub outcomes_of : List Try → List Answer
outcomes_of [] = []
outcomes_of (y ∷ ys) = cond (waits_on y.answer) (outcomes_of ys) (outcome y.answer ∷ outcomes_of ys)

-- what one pass or several leave
pub record PassResult : Type 0 where
  pub table : Bytes
  -- what waits after the passes, for any campaign, in the order it came
  pub waiting : List Waiting
  -- the campaign's blocks that were tried, in the order tried
  pub tries : List Try

-- what a pass leaves where the entry w stands before all others, p being what the others leave: first for a w that was tried and answered a, then for
-- a w that waits for another campaign
abbrev pub tried_before : Waiting → Answer → PassResult → PassResult
tried_before w a p =
    record {
      table = p.table;
      waiting = cond (waits_on a) (w ∷ p.waiting) p.waiting;
      tries = record { block = w.block; answer = a } ∷ p.tries;
    }

abbrev pub left_before : Waiting → PassResult → PassResult
left_before w p = record { table = p.table; waiting = w ∷ p.waiting; tries = p.tries }

-- what a pass leaves and then the passes after it
abbrev pub and_then : PassResult → PassResult → PassResult
and_then p q = record { table = q.table; waiting = q.waiting; tries = p.tries ++ q.tries }

-- some try let a block in
unfoldable pub admits : List Try → Bool
admits ys = some_in let_in ys

module _ (digest : Bytes → Bytes) where
  -- one pass for campaign c: each of its waiting blocks is tried once, from the first on, against the table with those of them that were let in
  unfoldable pub pass : Bytes → ℕ → List Waiting → PassResult
  pass t c [] = record { table = t; waiting = []; tries = [] }
  pass t c (w ∷ ws) =
      let p = pass (cond (is_for c w) (admitted digest t w.block 1) t) c ws in
      cond (is_for c w) (tried_before w (admission digest t w.block 1) p) (left_before w p)

  -- at most n passes for campaign c, up to the first that admits none
  unfoldable pub passes : ℕ → Bytes → ℕ → List Waiting → PassResult
  passes zero t c ws = record { table = t; waiting = ws; tries = [] }
  passes (suc n) t c ws =
      let p = pass t c ws in
      cond (admits p.tries) (and_then p (passes n p.table c p.waiting)) p

  -- all passes for campaign c. Each but the last lets a block in, so one pass more than blocks wait is enough (`settled` of specs/Promises.antt)
  unfoldable pub settled : Bytes → ℕ → List Waiting → PassResult
  settled t c ws = passes (suc (length ws)) t c ws
