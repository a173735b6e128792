-- Each call keeps site and ledger together, and so does every list of calls, from the empty table of a lawful setup on. Assumes nothing.
use mathlib.Core.Path.{◌≡◌, refl, sym, ap₂, ◌∙◌, subst}
use mathlib.Core.Bool.{Bool, true}
use mathlib.Core.Logic.{◌≢◌, inl, inr}
use mathlib.Core.List.Memᴰ
use mathlib.Core.List.{List, [], ◌∷◌, ◌++◌, Memᴰ}
use Prim.Native.Nat.{ℕ}
use lib.Dec.{eqb}
use lib.ListN.{length, drop}
use borrow.Author.Tests.{eqb-true, eqb-false, eq-eqb, ne_eqb}
use Rattle.base.specs.Bytes.{Bytes}
use Rattle.base.proofs.Tests.{by_test, true_not_false}
use Rattle.answer.proofs.Checks.{number_of}
use Rattle.answer.specs.declared.Answer.{Answer}
use Rattle.answer.specs.Checks.{Check, check, answer_to}
use Rattle.answer.specs.Promises.{elsewhere, different}
use Rattle.answer.proofs.Promises.{first_refused, decided}
use Rattle.setup.specs.Setup.{Setup}
use Rattle.block.specs.Limits.{reference_size}
use Rattle.table.specs.View.{View}
use Rattle.table.specs.Rules.{held_in_form}
use Rattle.admission.specs.Admission.{admission_checks, admission, admitted}
use Rattle.admission.proofs.Causes.{decided_by}
use Rattle.admission.proofs.Promises.{promises}
use Rattle.take_back.specs.TakingBack.{taking_back_checks, taking_back, taken_back}
use Rattle.interpret.specs.Interpretation.{interpretation_checks, interpretation, marked, recorded}
use Rattle.interpret.proofs.Effect.{marked_passed, recorded_passed}
use Rattle.retire.specs.Retiring.{retiring_checks, retiring, retired_table, retired_records}
use Rattle.run.specs.Ledger.{Call, admit, interpret, retire, take_back, Ledger, taken, view_in, ledger_answer, ledger_step, ledger_after, ledger_answers}
use Rattle.run.specs.Run.{Site, site_answer, site_step, site_after, site_answers}
use Rattle.run.proofs.Simulation.{Simulates, ledger_formed, answers_same, admitted_simulated, interpreted_simulated, retired_simulated, taken_back_simulated}
use Rattle.run.proofs.PlaceHistories.{PlaceHistories}
use Rattle.run.proofs.AdmissionStep.{admits}
use Rattle.run.proofs.InterpretationStep.{records_sized_lem, interprets}
use Rattle.run.proofs.RetiringStep.{retires}
use Rattle.run.proofs.TakingBackStep.{takes_back}

-- a list of calls, then another
pub after_append : (digest : Bytes → Bytes) (x : Site) (cs ds : List Call) → site_after digest x (cs ++ ds) ≡ site_after digest (site_after digest x cs) ds
unfolding site_after
after_append digest x [] ds = refl
after_append digest x (k ∷ cs) ds = after_append digest (site_step digest x k) cs ds

-- ---- 2 is answered by check 2 alone

admission_not_two : (digest : Bytes → Bytes) (s : Setup) (v : View) (b : Bytes) (verdict value : ℕ) (f : Bool) → f ≡ true
    → (answer_to (admission_checks digest f s v b verdict) value).refusal ≢ 2
admission_not_two digest s v b verdict value f y e = true_not_false y ((first_refused (decided_by digest f s v b verdict value)).0 e)

-- where the first check is that of form, and holds
formed_not_two : (cs : List Check) (f : Bool) → f ≡ true → different (check 2 f 0 ∷ cs) ≡ true → (answer_to (check 2 f 0 ∷ cs) 0).refusal ≢ 2
formed_not_two cs f y d e = true_not_false y ((first_refused (decided (check 2 f 0 ∷ cs) 0 d)).0 e)

-- ---- one call

module _ (digest : Bytes → Bytes) (sized : (b : Bytes) → length (digest b) ≡ reference_size) (s : Setup) (size : ℕ) where
  -- site and ledger show the same, and the part of each marked place is the meaning of its block's history
  pub record RunInvariant (l : Ledger) (x : Site) : Type 0 where
    pub simulated : Simulates digest s size l x
    pub known : PlaceHistories digest s l x

  module _ (l : Ledger) (x : Site) (t : RunInvariant l x) where
    same : (c : Call) → site_answer digest x c ≡ ledger_answer digest s size l c
    same = answers_same digest s size l x t.simulated

    -- a call that passes

    admission_invariant : (b : Bytes) (verdict : ℕ) → (admission digest x.table b verdict).refusal ≡ 0
        → RunInvariant (taken l (admit b verdict)) (record { table = admitted digest x.table b verdict; records = x.records })
    admission_invariant b verdict e =
        let p = (((promises digest sized).causes x.table b verdict).none.0 e).0 in
        record {
          simulated = admitted_simulated digest s size l x t.simulated b verdict (admitted digest x.table b verdict)
              ((promises digest sized).shown x.table b verdict e) ((promises digest sized).kept x.table b verdict t.simulated.formed);
          known = admits digest s size l x t.simulated t.known b verdict p (admitted digest x.table b verdict);
        }

    interpretation_invariant : (i : ℕ) → (interpretation x.table x.records i).refusal ≡ 0
        → RunInvariant (taken l (interpret i)) (record { table = marked x.table x.records i; records = recorded x.table x.records i })
    interpretation_invariant i e =
        subst (λ (y : Site). RunInvariant (taken l (interpret i)) y)
        (λ k. record { table = sym (marked_passed x.table x.records i e) k; records = sym (recorded_passed x.table x.records i e) k })
        (record {
          simulated = interpreted_simulated digest s size l x t.simulated i e _ (records_sized_lem digest s size l x t.simulated t.known i e);
          known = interprets digest s size l x t.simulated t.known i e _;
        })

    retiring_invariant : (retiring x.table x.records).refusal ≡ 0
        → RunInvariant (taken l retire) (record { table = retired_table x.table x.records; records = retired_records x.table x.records })
    retiring_invariant e =
        record { simulated = retired_simulated digest s size l x t.simulated e; known = retires digest s size l x t.simulated t.known e _ }

    taking_back_invariant : (taking_back x.table).refusal ≡ 0 → RunInvariant (taken l take_back) (record { table = taken_back x.table; records = x.records })
    taking_back_invariant e =
        record { simulated = taken_back_simulated digest s size l x t.simulated e; known = takes_back digest s size l x t.simulated t.known e _ }

    -- what the call does to the ledger, and what a refused call does to the site
    pub passed : (c : Call) → (site_answer digest x c).refusal ≡ 0 → ledger_step digest s size l c ≡ taken l c
    unfolding ledger_step
    passed c e = let z : (ledger_answer digest s size l c).refusal ≡ 0 = number_of (sym (same c)) ∙ e in rw (eq-eqb _ 0 z)

    pub refused : (c : Call) → (site_answer digest x c).refusal ≢ 0 → ledger_step digest s size l c ≡ l
    unfolding ledger_step
    refused c n = rw (ne_eqb (ledger_answer digest s size l c).refusal 0 (λ z. n (number_of (same c) ∙ z)))

    pub site_stays : (c : Call) → (site_answer digest x c).refusal ≢ 0 → site_step digest x c ≡ x
    unfolding site_answer site_step admitted marked recorded retired_table retired_records taken_back
    site_stays (admit b verdict) n = rw (ne_eqb (admission digest x.table b verdict).refusal 0 n)
    site_stays (interpret i) n = rw (ne_eqb (interpretation x.table x.records i).refusal 0 n)
    site_stays retire n = rw (ne_eqb (retiring x.table x.records).refusal 0 n)
    site_stays take_back n = rw (ne_eqb (taking_back x.table).refusal 0 n)

    pass : (c : Call) → (site_answer digest x c).refusal ≡ 0 → RunInvariant (taken l c) (site_step digest x c)
    unfolding site_answer site_step
    pass (admit b verdict) e = admission_invariant b verdict e
    pass (interpret i) e = interpretation_invariant i e
    pass retire e = retiring_invariant e
    pass take_back e = taking_back_invariant e

    pub step_invariant : (c : Call) → RunInvariant (ledger_step digest s size l c) (site_step digest x c)
    step_invariant c = by_test (eqb (site_answer digest x c).refusal 0)
        (λ y. let e : (site_answer digest x c).refusal ≡ 0 = eqb-true _ 0 y in rw (passed c e) (pass c e))
        (λ n. let e : (site_answer digest x c).refusal ≢ 0 = eqb-false _ 0 n in rw (refused c e, site_stays c e) t)

    -- the table is in form, so 2 is no answer
    after_form : (c : Call) (cs : List Check) → ledger_answer digest s size l c ≡ answer_to (check 2 (held_in_form s (view_in digest l)) 0 ∷ cs) 0
        → different (check 2 (held_in_form s (view_in digest l)) 0 ∷ cs) ≡ true → (site_answer digest x c).refusal ≢ 2
    after_form c cs q d e =
        formed_not_two cs _ (ledger_formed digest s size l x t.simulated) d (number_of (sym (same c ∙ q)) ∙ e)

    pub never_two : (c : Call) → (site_answer digest x c).refusal ≢ 2
    unfolding ledger_answer different elsewhere
    never_two (admit b verdict) e =
        admission_not_two digest s (view_in digest l) b verdict l.held _ (ledger_formed digest s size l x t.simulated) (number_of (sym (same (admit b verdict))) ∙ e)
    never_two (interpret i) e = after_form (interpret i) (drop 1 (interpretation_checks true (view_in digest l) size i)) refl refl e
    never_two retire e = after_form retire (drop 1 (retiring_checks true (view_in digest l) size)) refl refl e
    never_two take_back e = after_form take_back (drop 1 (taking_back_checks true (view_in digest l))) refl refl e

  -- ---- a list of calls

  pub run_invariant : (l : Ledger) (x : Site) → RunInvariant l x → (cs : List Call) → RunInvariant (ledger_after digest s size l cs) (site_after digest x cs)
  unfolding ledger_after site_after
  run_invariant l x t [] = t
  run_invariant l x t (c ∷ cs) = run_invariant (ledger_step digest s size l c) (site_step digest x c) (step_invariant l x t c) cs

  pub answers_invariant : (l : Ledger) (x : Site) → RunInvariant l x → (cs : List Call) → site_answers digest x cs ≡ ledger_answers digest s size l cs
  unfolding ledger_answers site_answers
  answers_invariant l x t [] = refl
  answers_invariant l x t (c ∷ cs) =
      ap₂ (λ (a : Answer) (rest : List Answer). a ∷ rest) (answers_same digest s size l x t.simulated c)
      (answers_invariant (ledger_step digest s size l c) (site_step digest x c) (step_invariant l x t c) cs)

  pub answers_formed : (l : Ledger) (x : Site) → RunInvariant l x → (cs : List Call) (a : Answer) → Memᴰ a (site_answers digest x cs) → a.refusal ≢ 2
  unfolding site_answers
  answers_formed l x t [] a m = absurd (Memᴰ.not-nil m)
  answers_formed l x t (c ∷ cs) a m = elim (Memᴰ.cases_cons m) [
    | inl q ↦ λ e. never_two l x t c (number_of (sym q) ∙ e)
    | inr k ↦ answers_formed (ledger_step digest s size l c) (site_step digest x c) (step_invariant l x t c) cs a k
  ]
