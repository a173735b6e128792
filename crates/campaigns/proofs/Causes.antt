-- Each refusal of an arrival comes under its cause and under no other. Assumes nothing.
use mathlib.Core.Path.{◌≡◌, refl, sym, ap, ◌∙◌}
use mathlib.Core.Bool.{true, false}
use mathlib.Core.Logic.{◌↔◌, ◌≢◌, ◌⊎◌, inl, inr}
use Prim.Native.Nat.{ℕ, ◌≤◌, ◌<◌}
use native.Mathlib.Omega.{arith}
use lib.Dec.{eqb}
use borrow.Author.Tests.{eqb-true, eqb-false}
use Rattle.base.specs.Bytes.{Bytes}
use Rattle.base.proofs.Tests.{by_test, true_not_false}
use Rattle.answer.specs.declared.Answer.{Answer}
use Rattle.shelf.specs.Layout.{waiting_in}
use Rattle.shelf.specs.Rules.{max_campaign, has_place, waits}
use Rattle.shelf.specs.Form.{shelf_in_form}
use Rattle.table.specs.Form.{in_form}
use Rattle.admission.specs.Admission.{admission}
use Rattle.admission.specs.Promises.{Causes as OwnCauses}
use Rattle.admission.proofs.Causes.{causes as admission_causes}
use Rattle.campaigns.specs.Arriving.{Called, outcomes_size}
use Rattle.campaigns.specs.Promises.{Lent, Tested, WouldGet9, Causes}
use Rattle.campaigns.proofs.Ways.{admission_elsewhere, all, at21, at17, at2, at20, at19, at9, at0, at_other, by_way}

number_of : {x y : Called} → x ≡ y → x.answer.refusal ≡ y.answer.refusal
number_of e = ap (λ (z : Called). z.answer.refusal) e

answer_of_lem : {x y : Called} → x ≡ y → x.answer ≡ y.answer
answer_of_lem e = ap (λ (z : Called). z.answer) e

module _ (digest : Bytes → Bytes) (t s : Bytes) (c : ℕ) (b : Bytes) (verdict room : ℕ) where
  abbrev Nine : Type 0
  Nine = WouldGet9 digest t s c b verdict room

  -- the way that a number tells of, with what it has tested
  record Told (n : ℕ) : Type 0 where
    above : n ≡ 21 → max_campaign < c
    short : n ≡ 17 → (c ≤ max_campaign) × (room < outcomes_size)
    again : n ≡ 20 → Nine × (waits c b (waiting_in s) ≡ true)
    full : n ≡ 19 → Nine × ((waits c b (waiting_in s) ≡ false) × (has_place c (waiting_in s) ≡ false))
    waiting : n ≡ 9 → Nine × ((waits c b (waiting_in s) ≡ false) × (has_place c (waiting_in s) ≡ true))

  told : Told (all digest t s c b verdict room).answer.refusal
  told =
      let other = admission_elsewhere digest t b verdict in
      by_way digest t s c b verdict room (λ x. Told x.answer.refusal)
      (λ h. record { above = λ e. h; short = λ e. absurd (omega arith); again = λ e. absurd (omega arith); full = λ e. absurd (omega arith); waiting = λ e. absurd (omega arith) })
      (λ l h. record { above = λ e. absurd (omega arith); short = λ e. (l, h); again = λ e. absurd (omega arith); full = λ e. absurd (omega arith); waiting = λ e. absurd (omega arith) })
      (λ l h n. record { above = λ e. absurd (omega arith); short = λ e. absurd (omega arith); again = λ e. absurd (omega arith); full = λ e. absurd (omega arith); waiting = λ e. absurd (omega arith) })
      (λ g y. record { above = λ e. absurd (omega arith); short = λ e. absurd (omega arith); again = λ e. (g, y); full = λ e. absurd (omega arith); waiting = λ e. absurd (omega arith) })
      (λ g n m. record { above = λ e. absurd (omega arith); short = λ e. absurd (omega arith); again = λ e. absurd (omega arith); full = λ e. (g, (n, m)); waiting = λ e. absurd (omega arith) })
      (λ g n y. record { above = λ e. absurd (other.not21 e); short = λ e. absurd (other.not17 e); again = λ e. absurd (other.not20 e); full = λ e. absurd (other.not19 e); waiting = λ e. (g, (n, y)) })
      (λ k z. record { above = λ e. absurd (other.not21 e); short = λ e. absurd (other.not17 e); again = λ e. absurd (other.not20 e); full = λ e. absurd (other.not19 e); waiting = λ e. absurd (omega arith) })
      (λ k n z. record { above = λ e. absurd (other.not21 e); short = λ e. absurd (other.not17 e); again = λ e. absurd (other.not20 e); full = λ e. absurd (other.not19 e); waiting = λ e. absurd (n e) })

  abbrev number : ℕ
  number = (all digest t s c b verdict room).answer.refusal

  -- what admission's own number says
  abbrev own : OwnCauses digest t b verdict
  own = admission_causes digest t b verdict

  others : Tested digest t s c b verdict room → (admission digest t b verdict).refusal ≢ 9 → (all digest t s c b verdict room).answer ≡ admission digest t b verdict
  others k n =
      by_test (eqb (admission digest t b verdict).refusal 0)
      (λ z. answer_of_lem (at0 digest t s c b verdict room k (eqb-true (admission digest t b verdict).refusal 0 z)))
      (λ z. answer_of_lem (at_other digest t s c b verdict room k n (eqb-false (admission digest t b verdict).refusal 0 z)))

  abbrev NotFormed : Type 0
  NotFormed = Lent digest t s c b verdict room × ((shelf_in_form s ≡ false) ⊎ (in_form t ≡ false))

  two : (number ≡ 2) ↔ NotFormed
  two = (
    by_way digest t s c b verdict room (λ x. x.answer.refusal ≡ 2 → NotFormed)
        (λ h e. absurd (omega arith)) (λ l h e. absurd (omega arith)) (λ l h n e. (record { campaign = l; outcomes = h }, inl n)) (λ g y e. absurd (omega arith)) (λ g n m e. absurd (omega arith))
        (λ g n y e. absurd (omega (arith, g.missing))) (λ k z e. absurd (omega arith))
        (λ k n z e. (record { campaign = k.campaign; outcomes = k.outcomes }, inr (own.two.0 e))),
    λ p.
        let l = p.0 in
        by_test (shelf_in_form s)
        (λ y.
        let f : in_form t ≡ false = elim p.1 [ inl n ↦ true_not_false y n | inr n ↦ n ] in
        let e = own.two.1 f in
        ap (λ (a : Answer). a.refusal) (others (record { campaign = l.campaign; outcomes = l.outcomes; formed = y }) (λ q. omega arith)) ∙ e)
        (λ n. number_of (at2 digest t s c b verdict room l.campaign l.outcomes n)),
  )

  other_numbers : (n : ℕ) → n ≢ 2 → n ≢ 9 → n ≢ 17 → n ≢ 19 → n ≢ 20 → n ≢ 21
      → (number ≡ n) ↔ (Tested digest t s c b verdict room × ((admission digest t b verdict).refusal ≡ n))
  other_numbers n n2 n9 n17 n19 n20 n21 = (
    by_way digest t s c b verdict room (λ x. x.answer.refusal ≡ n → Tested digest t s c b verdict room × ((admission digest t b verdict).refusal ≡ n))
        (λ h e. absurd (n21 (sym e))) (λ l h e. absurd (n17 (sym e))) (λ l h m e. absurd (n2 (sym e))) (λ g y e. absurd (n20 (sym e))) (λ g m k e. absurd (n19 (sym e)))
        (λ g m y e. absurd (n9 (sym e ∙ g.missing))) (λ k z e. (k, e)) (λ k m z e. (k, e)),
    λ p. ap (λ (a : Answer). a.refusal) (others p.0 (λ q. n9 (sym p.1 ∙ q))) ∙ p.1,
  )

  needed : number ≡ 17 → (all digest t s c b verdict room).answer.value ≡ outcomes_size
  needed =
      let other = admission_elsewhere digest t b verdict in
      by_way digest t s c b verdict room (λ x. x.answer.refusal ≡ 17 → x.answer.value ≡ outcomes_size)
      (λ h e. absurd (omega arith)) (λ l h e. refl) (λ l h n e. absurd (omega arith)) (λ g y e. absurd (omega arith)) (λ g n m e. absurd (omega arith))
      (λ g n y e. absurd (other.not17 e)) (λ k z e. absurd (other.not17 e)) (λ k n z e. absurd (other.not17 e))

  no_value : number ≢ 17 → number ≢ 0 → number ≢ 6 → number ≢ 18 → number ≢ 7 → number ≢ 8 → number ≢ 9 → (all digest t s c b verdict room).answer.value ≡ 0
  no_value =
      by_way digest t s c b verdict room
      (λ x. x.answer.refusal ≢ 17 → x.answer.refusal ≢ 0 → x.answer.refusal ≢ 6 → x.answer.refusal ≢ 18 → x.answer.refusal ≢ 7 → x.answer.refusal ≢ 8 → x.answer.refusal ≢ 9
      → x.answer.value ≡ 0)
      (λ h n17 n0 n6 n18 n7 n8 n9. refl) (λ l h n17 n0 n6 n18 n7 n8 n9. absurd (n17 refl)) (λ l h n n17 n0 n6 n18 n7 n8 n9. refl) (λ g y n17 n0 n6 n18 n7 n8 n9. refl) (λ g n m n17 n0 n6 n18 n7 n8 n9. refl)
      (λ g n y n17 n0 n6 n18 n7 n8 n9. absurd (n9 g.missing)) (λ k z n17 n0 n6 n18 n7 n8 n9. absurd (n0 z)) (λ k n z n17. own.no_value)

  pub causes : Causes digest t s c b verdict room
  causes =
      record {
        twenty_one = (told.above, λ h. number_of (at21 digest t s c b verdict room h));
        seventeen = (told.short, λ h. number_of (at17 digest t s c b verdict room h.0 h.1));
        twenty = (told.again, λ h. number_of (at20 digest t s c b verdict room h.0.tested h.0.missing h.1));
        nineteen = (told.full, λ h. number_of (at19 digest t s c b verdict room h.0.tested h.0.missing h.1.0 h.1.1));
        nine = (told.waiting, λ h. number_of (at9 digest t s c b verdict room h.0.tested h.0.missing h.1.0 h.1.1) ∙ h.0.missing);
        two = two;
        other_numbers = other_numbers;
        others = others;
        index = λ e. let g = told.waiting e in answer_of_lem (at9 digest t s c b verdict room g.0.tested g.0.missing g.1.0 g.1.1);
        needed = needed;
        no_value = no_value;
      }
