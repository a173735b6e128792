-- What an answer says of the checks behind it, in one law for every call; proofs/Promises.antt shows it.
use Rattle.std.specs.Prelude.{◌≡◌, Bool, true, false, not, ◌&&◌, ◌↔◌, List, [], ◌∷◌, ℕ, zero, suc, ◌<◌, eqb, length}
use Rattle.answer.specs.declared.Answer.{Answer}
use Rattle.answer.specs.Checks.{Check, check, answer_to}

-- check k of a list, and past the list's end a check that holds
abbrev pub check_at : List Check → ℕ → Check
check_at [] k = check 0 true 0
check_at (c ∷ cs) zero = c
check_at (c ∷ cs) (suc k) = check_at cs k

-- the first k checks hold
abbrev pub FirstHold : List Check → ℕ → Type 0
FirstHold cs zero = Unit
FirstHold cs (suc k) = FirstHold cs k × ((check_at cs k).holds ≡ true)

-- n is neither 0 nor the number of one of the checks
unfoldable pub elsewhere : ℕ → List Check → Bool
elsewhere n [] = not (eqb 0 n)
elsewhere n (c ∷ cs) = not (eqb c.number n) && elsewhere n cs

-- the checks have different numbers, and none has number 0
unfoldable pub different : List Check → Bool
different [] = true
different (c ∷ cs) = elsewhere c.number cs && different cs

-- what an answer says of the checks of its call, where a success returns this value
pub record Decided (a : Answer) (cs : List Check) (value : ℕ) : Type 0 where
  -- the answer has the number of check k exactly if all checks before check k hold and check k does not
  pub refused : (k : ℕ) → k < length cs → (a.refusal ≡ (check_at cs k).number) ↔ (FirstHold cs k × ((check_at cs k).holds ≡ false))
  -- an answer with the number of check k has the value of check k
  pub valued : (k : ℕ) → k < length cs → a.refusal ≡ (check_at cs k).number → a.value ≡ (check_at cs k).value
  -- the answer is a success exactly if all checks hold, and then it has the value of a success
  pub none : (a.refusal ≡ 0) ↔ FirstHold cs (length cs)
  pub returned : a.refusal ≡ 0 → a.value ≡ value

-- the answer to any list of checks of different numbers is decided by the checks
pub record Promises : Type 0 where
  pub decided : (cs : List Check) (value : ℕ) → different cs ≡ true → Decided (answer_to cs value) cs value
