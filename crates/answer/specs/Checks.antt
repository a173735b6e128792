-- Document 01, "What is turned down": a call makes its checks in order, and the first that does not hold decides.
use Rattle.std.specs.Prelude.{Bool, cond, not, List, [], ◌∷◌, ℕ}
use Rattle.base.specs.Search.{first_below, any_below}
use Rattle.answer.specs.declared.Answer.{Answer}

-- a check: its refusal's number, whether it holds, and the value that is returned where it does not
pub record Check : Type 0 where
  pub number : ℕ
  pub holds : Bool
  pub value : ℕ

abbrev pub check : ℕ → Bool → ℕ → Check
check number holds value = record { number = number; holds = holds; value = value }

-- a check that no number below k passes the test; the value is the first that does
abbrev pub check_none : ℕ → (ℕ → Bool) → ℕ → Check
check_none number test k = check number (not (any_below test k)) (first_below test k)

-- "A success has refusal 0"
abbrev pub success : ℕ → Answer
success value = record { refusal = 0; value = value }

abbrev pub refused : ℕ → ℕ → Answer
refused number value = record { refusal = number; value = value }

-- the answer of a call that makes these checks, and whose success returns this value
unfoldable pub answer_to : List Check → ℕ → Answer
answer_to [] value = success value
answer_to (c ∷ cs) value = cond c.holds (answer_to cs value) (refused c.number c.value)
