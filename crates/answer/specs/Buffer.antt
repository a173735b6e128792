-- Answers in a lent buffer, two numbers for each: refusal and value.
use Rattle.std.specs.Prelude.{cond, List, [], ◌∷◌, ℕ, suc, ◌+◌, ◌*◌, leb, length}
use Rattle.base.specs.Bytes.{splice}
use Rattle.answer.specs.declared.Answer.{Answer}

-- the buffer with refusal and value of answer i; the buffer as it was where they do not fit
unfoldable pub put_answer : List ℕ → ℕ → Answer → List ℕ
put_answer buffer i a = cond (leb (2 * i + 2) (length buffer)) (splice buffer (2 * i) (a.refusal ∷ a.value ∷ [])) buffer

-- the buffer with a list of answers, of which the first is answer i
unfoldable pub put_answers : List ℕ → ℕ → List Answer → List ℕ
put_answers buffer i [] = buffer
put_answers buffer i (a ∷ rest) = put_answers (put_answer buffer i a) (suc i) rest
