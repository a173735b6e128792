-- How a fact is shown of a pass, and of all passes: entry by entry, and pass by pass. Assumes nothing.
use mathlib.Core.Path.{◌≡◌, refl, ap}
use mathlib.Core.Bool.{true, false, cond}
use mathlib.Core.List.{List, [], ◌∷◌}
use Prim.Native.Nat.{ℕ, zero, suc, ◌+◌, ◌<◌}
use native.Mathlib.Omega.{arith}
use lib.ListN.{length}
use borrow.Author.Tests.{eqb-true, ne_eqb}
use Rattle.base.specs.Bytes.{Bytes}
use Rattle.base.specs.List.{some_in}
use Rattle.base.proofs.Tests.{by_test, true_not_false}
use Rattle.shelf.specs.Layout.{Waiting}
use Rattle.shelf.specs.Rules.{is_for}
use Rattle.admission.specs.Admission.{admission, admitted}
use Rattle.campaigns.specs.Passes.{Try, PassResult, waits_on, outcomes_of, tried_before, left_before, and_then, admits, pass, passes, settled}

-- where a block was let in, there is an outcome
admits_some : (ys : List Try) → admits ys ≡ true → 0 < length (outcomes_of ys)
unfolding admits some_in outcomes_of
admits_some [] e = true_not_false e refl
admits_some (y ∷ ys) e =
    by_test (waits_on y.answer)
    (λ z.
    let r : y.answer.refusal ≡ 9 = eqb-true y.answer.refusal 9 z in
    rw z (admits_some ys (rw (ne_eqb y.answer.refusal 0 (λ q. omega arith)) at e)))
    (λ n. rw n (omega arith))

module _ (digest : Bytes → Bytes) (c : ℕ) where
  module _ (P : Bytes → List Waiting → PassResult → Type 0)
      (none : (t : Bytes) → P t [] (record { table = t; waiting = []; tries = [] }))
      (other : (t : Bytes) (w : Waiting) (ws : List Waiting) (p : PassResult) → is_for c w ≡ false → P t ws p → P t (w ∷ ws) (left_before w p))
      (own : (t : Bytes) (w : Waiting) (ws : List Waiting) (p : PassResult) → is_for c w ≡ true → P (admitted digest t w.block 1) ws p
      → P t (w ∷ ws) (tried_before w (admission digest t w.block 1) p)) where
    pub pass_by : (ws : List Waiting) (t : Bytes) → P t ws (pass digest t c ws)
    unfolding pass
    pass_by [] t = none t
    pass_by (w ∷ ws) t =
        by_test (is_for c w)
        (λ y. rw y (own t w ws (pass digest (admitted digest t w.block 1) c ws) y (pass_by ws (admitted digest t w.block 1))))
        (λ n. rw n (other t w ws (pass digest t c ws) n (pass_by ws t)))

  -- what waits on, and what has ended, is all that waited
  pub pass_length : (ws : List Waiting) (t : Bytes) → length (pass digest t c ws).waiting + length (outcomes_of (pass digest t c ws).tries) ≡ length ws
  unfolding outcomes_of
  pass_length =
      pass_by (λ t ws p. length p.waiting + length (outcomes_of p.tries) ≡ length ws)
      (λ t. refl)
      (λ t w ws p n e. omega arith)
      (λ t w ws p y e. by_test (waits_on (admission digest t w.block 1)) (λ z. rw z (omega arith)) (λ z. rw z (omega arith)))

  pub pass_fewer : (ws : List Waiting) (t : Bytes) → admits (pass digest t c ws).tries ≡ true → length (pass digest t c ws).waiting < length ws
  pass_fewer ws t e = omega (arith, pass_length ws t, admits_some (pass digest t c ws).tries e)

  -- more passes than blocks wait are enough
  pub passes_enough : (n m : ℕ) (t : Bytes) (ws : List Waiting) → length ws < n → length ws < m → passes digest n t c ws ≡ passes digest m t c ws
  unfolding passes
  passes_enough zero m t ws h k = absurd (omega arith)
  passes_enough (suc n) zero t ws h k = absurd (omega arith)
  passes_enough (suc n) (suc m) t ws h k =
      let p = pass digest t c ws in
      by_test (admits p.tries)
      (λ y. let l = pass_fewer ws t y in ap (λ (q : PassResult). cond (admits p.tries) (and_then p q) p) (passes_enough n m p.table p.waiting (omega arith) (omega arith)))
      (λ y. rw y)

  module _ (P : Bytes → List Waiting → PassResult → Type 0)
      (last : (t : Bytes) (ws : List Waiting) → admits (pass digest t c ws).tries ≡ false → P t ws (pass digest t c ws))
      (more : (t : Bytes) (ws : List Waiting) (q : PassResult) → P (pass digest t c ws).table (pass digest t c ws).waiting q → P t ws (and_then (pass digest t c ws) q)) where
    passes_by : (n : ℕ) (t : Bytes) (ws : List Waiting) → length ws < n → P t ws (passes digest n t c ws)
    unfolding passes
    passes_by zero t ws h = absurd (omega arith)
    passes_by (suc n) t ws h =
        let p = pass digest t c ws in
        by_test (admits p.tries)
        (λ y. let l = pass_fewer ws t y in rw y (more t ws (passes digest n p.table c p.waiting) (passes_by n p.table p.waiting (omega arith))))
        (λ y. rw y (last t ws y))

    pub settled_by : (t : Bytes) (ws : List Waiting) → P t ws (settled digest t c ws)
    unfolding settled
    settled_by t ws = passes_by (suc (length ws)) t ws (omega arith)
