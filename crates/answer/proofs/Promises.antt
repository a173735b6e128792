-- The one law of answers: where checks have different numbers, the answer has the number of check k exactly if all checks before check k hold and
-- check k does not, and then it has the value of check k. Assumes nothing.
use mathlib.Core.Path.{◌≡◌, refl, sym, ap, ◌∙◌}
use mathlib.Core.Bool.{true, false, not}
use mathlib.Core.Logic.{◌↔◌, ◌≢◌}
use mathlib.Core.List.{List, [], ◌∷◌, ◌++◌}
use Prim.Native.Nat.{ℕ, zero, suc, ◌+◌, ◌<◌}
use native.Mathlib.Omega.{arith}
use lib.Dec.{eqb}
use lib.ListN.{length, drop}
use borrow.Author.Tests.{eqb-false, ne_eqb, not-true}
use Rattle.base.proofs.Tests.{by_test, and_left, and_right}
use Rattle.answer.specs.declared.Answer.{Answer}
use Rattle.answer.specs.Checks.{Check, check, refused, answer_to}
use Rattle.answer.specs.Promises.{check_at, FirstHold, elsewhere, different, Decided, Promises}
use Rattle.answer.proofs.Checks.{number_of, value_of, first_holds, first_fails, never_answered}

-- the first and k more hold
in_front : (c : Check) (cs : List Check) (k : ℕ) → FirstHold (c ∷ cs) (suc k) ↔ ((c.holds ≡ true) × FirstHold cs k)
in_front c cs zero = (λ p. (p.1, tt), λ p. (tt, p.0))
in_front c cs (suc k) = (
  λ p. let q = (in_front c cs k).0 p.0 in (q.0, (q.1, p.1)),
  λ p. ((in_front c cs k).1 (p.0, p.1.0), p.1.1),
)

-- the first checks of two lists in one
pub both_hold : (front rest : List Check) (k n : ℕ) → n ≡ length front + k → FirstHold (front ++ rest) n ↔ (FirstHold front (length front) × FirstHold rest k)
both_hold [] rest k n e = let same : n ≡ k = omega arith in rw same (λ p. (tt, p), λ p. p.1)
both_hold (c ∷ front) rest k zero e = absurd (omega arith)
both_hold (c ∷ front) rest k (suc n) e =
    let one = in_front c (front ++ rest) n in
    let more = both_hold front rest k n (omega arith) in
    let own = in_front c front (length front) in (
      λ p. let q = one.0 p in let r = more.0 q.1 in (own.1 (q.0, r.0), r.1),
      λ p. let q = own.0 p.0 in one.1 (q.0, more.1 (q.1, p.1)),
    )

-- check k decides where it is the first that does not hold
pub decides : (cs : List Check) (value k : ℕ) → k < length cs → FirstHold cs k → (check_at cs k).holds ≡ false
    → answer_to cs value ≡ refused (check_at cs k).number (check_at cs k).value
decides [] value k h p f = absurd (omega arith)
decides (c ∷ cs) value zero h p f = first_fails c cs value f
decides (c ∷ cs) value (suc k) h p f = let q = (in_front c cs k).0 p in first_holds c cs value q.0 ∙ decides cs value k (omega arith) q.1 f

-- checks that hold leave the answer to those behind them
pub past : (cs : List Check) (value k : ℕ) → FirstHold cs k → answer_to cs value ≡ answer_to (drop k cs) value
past cs value zero p = refl
past [] value (suc k) p = refl
past (c ∷ cs) value (suc k) p = let q = (in_front c cs k).0 p in first_holds c cs value q.0 ∙ past cs value k q.1

-- a number that no check has is that of none behind the first
behind : (c : Check) (cs : List Check) (n : ℕ) → elsewhere n (c ∷ cs) ≡ true → elsewhere n cs ≡ true
unfolding elsewhere
behind c cs n e = and_right (not (eqb c.number n)) (elsewhere n cs) e

-- a number that no check has is not that of check k
other_number : (n : ℕ) (cs : List Check) (k : ℕ) → elsewhere n cs ≡ true → k < length cs → (check_at cs k).number ≢ n
unfolding elsewhere
other_number n [] k e h = absurd (omega arith)
other_number n (c ∷ cs) zero e h = eqb-false c.number n (not-true _ (and_left (not (eqb c.number n)) (elsewhere n cs) e))
other_number n (c ∷ cs) (suc k) e h = other_number n cs k (behind c cs n e) (omega arith)

-- nor is it 0
not_zero : (n : ℕ) (cs : List Check) → elsewhere n cs ≡ true → 0 ≢ n
unfolding elsewhere
not_zero n [] e = eqb-false 0 n (not-true _ e)
not_zero n (c ∷ cs) e = not_zero n cs (behind c cs n e)

-- a number that is not the first check's says that this holds
first_held : (c : Check) (cs : List Check) (value n : ℕ) → c.number ≢ n → (answer_to (c ∷ cs) value).refusal ≡ n
    → (c.holds ≡ true) × ((answer_to cs value).refusal ≡ n)
first_held c cs value n other e =
    by_test c.holds (λ y. (y, sym (number_of (first_holds c cs value y)) ∙ e)) (λ f. absurd (other (sym (number_of (first_fails c cs value f)) ∙ e)))

module _ (c : Check) (cs : List Check) (value : ℕ) (d : different (c ∷ cs) ≡ true) where
  apart : elsewhere c.number cs ≡ true
  unfolding different
  apart = and_left _ (different cs) d

  rest_different : different cs ≡ true
  unfolding different
  rest_different = and_right (elsewhere c.number cs) _ d

-- a number says which check decided
told : (cs : List Check) (value k : ℕ) → different cs ≡ true → k < length cs → (answer_to cs value).refusal ≡ (check_at cs k).number
    → FirstHold cs k × ((check_at cs k).holds ≡ false)
told [] value k d h e = absurd (omega arith)
told (c ∷ cs) value zero d h e =
    (tt, by_test c.holds (λ y. absurd (never_answered c.number cs value (apart c cs value d) (sym (number_of (first_holds c cs value y)) ∙ e))) (λ f. f))
told (c ∷ cs) value (suc k) d h e =
    let first = first_held c cs value _ (λ q. other_number c.number cs k (apart c cs value d) (omega arith) (sym q)) e in
    let rest = told cs value k (rest_different c cs value d) (omega arith) first.1 in
    ((in_front c cs k).1 (first.0, rest.0), rest.1)

-- a success says that all hold
pub all_passed : (cs : List Check) (value : ℕ) → different cs ≡ true → (answer_to cs value).refusal ≡ 0 → FirstHold cs (length cs)
all_passed [] value d e = tt
all_passed (c ∷ cs) value d e =
    let first = first_held c cs value 0 (λ q. not_zero c.number cs (apart c cs value d) (sym q)) e in
    (in_front c cs (length cs)).1 (first.0, all_passed cs value (rest_different c cs value d) first.1)

-- where all hold the call succeeds
pub succeeds : (cs : List Check) (value : ℕ) → FirstHold cs (length cs) → answer_to cs value ≡ record { refusal = 0; value = value }
unfolding answer_to
succeeds [] value p = refl
succeeds (c ∷ cs) value p = let q = (in_front c cs (length cs)).0 p in first_holds c cs value q.0 ∙ succeeds cs value q.1

pub decided : (cs : List Check) (value : ℕ) → different cs ≡ true → Decided (answer_to cs value) cs value
decided cs value d =
    record {
      refused = λ k h. (told cs value k d h, λ p. number_of (decides cs value k h p.0 p.1));
      valued = λ k h e. let p = told cs value k d h e in value_of (decides cs value k h p.0 p.1);
      none = (all_passed cs value d, λ p. number_of (succeeds cs value p));
      returned = λ e. value_of (succeeds cs value (all_passed cs value d e));
    }

-- the first check decides by itself
pub first_refused : {a : Answer} {c : Check} {cs : List Check} {value : ℕ} → Decided a (c ∷ cs) value → (a.refusal ≡ c.number) ↔ (c.holds ≡ false)
first_refused d = (λ e. ((d.refused 0 (omega arith)).0 e).1, λ f. (d.refused 0 (omega arith)).1 (tt, f))

-- the second where that holds
pub second_refused : {a : Answer} {c₁ c₂ : Check} {cs : List Check} {value : ℕ} → Decided a (c₁ ∷ (c₂ ∷ cs)) value
    → (a.refusal ≡ c₂.number) ↔ ((c₁.holds ≡ true) × (c₂.holds ≡ false))
second_refused d = (
  λ e. let p = (d.refused 1 (omega arith)).0 e in (p.0.1, p.1),
  λ p. (d.refused 1 (omega arith)).1 ((tt, p.0), p.1),
)

-- what some checks answer, as one check of a longer list
abbrev pub as_one : Answer → Check
as_one a = check a.refusal (eqb a.refusal 0) a.value

pub in_line : (cs rest : List Check) (value : ℕ) → different cs ≡ true → answer_to (as_one (answer_to cs 0) ∷ rest) value ≡ answer_to (cs ++ rest) value
unfolding answer_to
in_line [] rest value d = refl
in_line (c ∷ cs) rest value d =
    by_test c.holds
    (λ y. joined (first_holds c cs 0 y) ∙ in_line cs rest value (rest_different c cs value d) ∙ sym (first_holds c (cs ++ rest) value y))
    (λ f. joined (first_fails c cs 0 f) ∙ first_fails (as_one (refused c.number c.value)) rest value (ne_eqb _ 0 (λ z. not_zero c.number cs (apart c cs value d) (sym z)))
    ∙ sym (first_fails c (cs ++ rest) value f))
  where
    joined : {a b : Answer} → a ≡ b → answer_to (as_one a ∷ rest) value ≡ answer_to (as_one b ∷ rest) value
    joined e = ap (λ (a : Answer). answer_to (as_one a ∷ rest) value) e

-- a number that no other check has is handed on, with its value
pub handed_on : (front rest : List Check) (a : Answer) (value n : ℕ) → elsewhere n front ≡ true → elsewhere n rest ≡ true
    → (answer_to (front ++ (as_one a ∷ rest)) value).refusal ≡ n → FirstHold front (length front) × (answer_to (front ++ (as_one a ∷ rest)) value ≡ a)
handed_on [] rest a value n e f q = (
  tt,
  by_test (eqb a.refusal 0)
      (λ y. absurd (never_answered n rest value f (sym (number_of (first_holds (as_one a) rest value y)) ∙ q)))
      (λ k. first_fails (as_one a) rest value k),
)
handed_on (c ∷ front) rest a value n e f q =
    let first = first_held c (front ++ (as_one a ∷ rest)) value n (λ k. other_number n (c ∷ front) 0 e (omega arith) k) q in
    let more = handed_on front rest a value n (behind c front n e) f first.1 in
    ((in_front c front (length front)).1 (first.0, more.0), first_holds c (front ++ (as_one a ∷ rest)) value first.0 ∙ more.1)

pub promises : Promises
promises = record { decided = decided }
