-- A site's run told by its ledger, by the theorem of crates/agreement, and the ledger told by the answers that a case claims. So a case is
-- computed without table and buffer: each answer once, where the check of form is known to hold. Assumes nothing.
use mathlib.Core.Path.{◌≡◌, refl, sym, ap, ap₂, ◌∙◌, subst}
use mathlib.Core.Logic.{◌≢◌}
use mathlib.Core.Bool.{Bool, true, cond, ◌&&◌}
use mathlib.Core.List.{List, [], ◌∷◌, map, Memᴰ}
use Prim.Native.Nat.{ℕ, suc, ◌<◌}
use native.Mathlib.Omega.{arith}
use lib.Dec.{eqb}
use lib.ListN.{length, get_or, drop, replicate, length-replicate}
use borrow.Author.Tests.{eqb-true}
use Rattle.base.specs.Bytes.{part_at}
use Rattle.base.specs.List.{list_below}
use Rattle.base.specs.Search.{all_below}
use Rattle.base.proofs.Tests.{by_test, and_left, and_right}
use Rattle.base.proofs.Search.{all_true_at}
use Rattle.base.proofs.List.{list_same}
use Rattle.answer.specs.declared.Answer.{Answer}
use Rattle.answer.specs.Checks.{answer_to}
use Rattle.setup.specs.Setup.{Setup, lawful, slot_count}
use Rattle.broadcast.specs.declared.SlotRecord.{SlotRecord}
use Rattle.broadcast.specs.declared.Sent.{Sent}
use Rattle.table.specs.Rules.{held_in_form}
use Rattle.table.specs.Fresh.{empty_table, fresh_table}
use Rattle.records.specs.Layout.{record_size, flatten, buffer_size, part_of, record_in}
use Rattle.records.proofs.Parts.{numbers_part, record_in_lem}
use Rattle.admission.specs.Admission.{admission_checks}
use Rattle.take_back.specs.TakingBack.{taking_back_checks}
use Rattle.interpret.specs.Interpretation.{interpretation_checks}
use Rattle.retire.specs.Retiring.{retiring_checks}
use Rattle.history.specs.History.{slot_record, meaning}
use Rattle.history.proofs.Meanings.{record_sized}
use Rattle.run.specs.Ledger.{Call, admit, interpret, retire, take_back, Ledger, empty, taken, view_in, ledger_answer, ledger_step, ledger_after, ledger_answers}
use Rattle.run.specs.Run.{Site, started, site_after, site_answers}
use Rattle.run.specs.Promises.{Interpreted, RetiredClear, history_at, ledger_of, site_with}
use Rattle.agreement.specs.TwoSites.{TwoSites}
use Rattle.agreement.proofs.TwoSites.{promised}
use Rattle.cases.specs.Toy.{toy}
use Rattle.cases.specs.Run.{good, zero_records, at, answers, Turn, calls_of, answers_of, ledger_left, Session, Step, arriving, Campaign}
use Rattle.cases.proofs.Toy.{toy_digest}

-- ---- the ledger, told by answers

-- the ledger after calls that are answered so
unfoldable pub claimed : Ledger → List Call → List Answer → Ledger
claimed l [] ys = l
claimed l (c ∷ cs) [] = l
claimed l (c ∷ cs) (y ∷ ys) = claimed (cond (eqb y.refusal 0) (taken l c) l) cs ys

module _ (s : Setup) where
  -- the answer of a call where the ledger's places are in form
  unfoldable pub answer_in_form : Ledger → Call → Answer
  answer_in_form l (admit b verdict) = answer_to (admission_checks toy true s (view_in toy l) b verdict) l.held
  answer_in_form l (interpret place) = answer_to (interpretation_checks true (view_in toy l) buffer_size place) 0
  answer_in_form l retire = answer_to (retiring_checks true (view_in toy l) buffer_size) 0
  answer_in_form l take_back = answer_to (taking_back_checks true (view_in toy l)) 0

  -- the answer of each, where the earlier calls are answered so
  unfoldable pub told : Ledger → List Call → List Answer → List Answer
  told l [] ys = []
  told l (c ∷ cs) [] = answer_in_form l c ∷ []
  told l (c ∷ cs) (y ∷ ys) = answer_in_form l c ∷ told (cond (eqb y.refusal 0) (taken l c) l) cs ys

  -- where 2 is not answered, the places are in form
  in_form_lem : (l : Ledger) (c : Call) → (ledger_answer toy s buffer_size l c).refusal ≢ 2 → ledger_answer toy s buffer_size l c ≡ answer_in_form l c
  unfolding ledger_answer answer_in_form answer_to
  in_form_lem l (admit b verdict) n = by_test (held_in_form s (view_in toy l)) (λ y. rw y) (λ z. absurd (n (rw z)))
  in_form_lem l (interpret place) n = by_test (held_in_form s (view_in toy l)) (λ y. rw y) (λ z. absurd (n (rw z)))
  in_form_lem l retire n = by_test (held_in_form s (view_in toy l)) (λ y. rw y) (λ z. absurd (n (rw z)))
  in_form_lem l take_back n = by_test (held_in_form s (view_in toy l)) (λ y. rw y) (λ z. absurd (n (rw z)))

  -- answers are the ledger's if each call gets its own where the earlier calls get theirs
  record Told (l : Ledger) (cs : List Call) (ys : List Answer) : Type 0 where
    answers_are : ledger_answers toy s buffer_size l cs ≡ ys
    ledger_is : ledger_after toy s buffer_size l cs ≡ claimed l cs ys

  told_so : (l : Ledger) (cs : List Call) (ys : List Answer)
      → ((a : Answer) → Memᴰ a (ledger_answers toy s buffer_size l cs) → a.refusal ≢ 2) → told l cs ys ≡ ys → Told l cs ys
  unfolding told claimed ledger_answers ledger_after ledger_step
  told_so l [] ys n e = record { answers_are = e; ledger_is = refl }
  told_so l (c ∷ cs) [] n e = let z : length (answer_in_form l c ∷ []) ≡ 0 = ap length e in absurd (omega arith)
  told_so l (c ∷ cs) (y ∷ ys) n e =
      let first : ledger_answer toy s buffer_size l c ≡ y = in_form_lem l c (n _ (Memᴰ.head refl)) ∙ ap (λ (x : List Answer). get_or x 0 y) e in
      let step : ledger_step toy s buffer_size l c ≡ cond (eqb y.refusal 0) (taken l c) l = ap (λ (a : Answer). cond (eqb a.refusal 0) (taken l c) l) first in
      let rest = told_so (cond (eqb y.refusal 0) (taken l c) l) cs ys
      (λ a m. n a (Memᴰ.tail (subst (λ (k : Ledger). Memᴰ a (ledger_answers toy s buffer_size k cs)) (sym step) m)))
      (ap (λ (x : List Answer). drop 1 x) e) in
      record {
        answers_are = ap₂ (λ (a : Answer) (x : List Answer). a ∷ x) first (ap (λ (k : Ledger). ledger_answers toy s buffer_size k cs) step ∙ rest.answers_are);
        ledger_is = ap (λ (k : Ledger). ledger_after toy s buffer_size k cs) step ∙ rest.ledger_is;
      }

  -- ---- the site

  module _ (law : lawful s ≡ true) (buffer : List ℕ) (whole : length buffer ≡ buffer_size) (calls : List Call) (ys : List Answer)
      (e : told empty calls ys ≡ ys) where
    promises : TwoSites toy s buffer [] calls []
    promises = promised toy toy_digest.size s law buffer [] calls []

    so : Told empty calls ys
    so = told_so empty calls ys (λ a m. promises.first_answers.formed a
        (subst (λ (x : List Answer). Memᴰ a x)
        (sym (promises.first_answers.same ∙ ap (λ (n : ℕ). ledger_answers toy s n empty calls) whole)) m)) e

    pub answers_told : site_answers toy (started s buffer) calls ≡ ys
    answers_told = promises.first_answers.same ∙ ap (λ (n : ℕ). ledger_answers toy s n empty calls) whole ∙ so.answers_are

    pub ledger_told : ledger_of toy s buffer calls ≡ claimed empty calls ys
    ledger_told = ap (λ (n : ℕ). ledger_after toy s n empty calls) whole ∙ so.ledger_is

    -- where no block was retired, nothing is asked of digests
    pub unretired_told : (claimed empty calls ys).retired ≡ [] → RetiredClear toy (ledger_of toy s buffer calls)
    unretired_told none = promises.first.unretired (ap (λ (l : Ledger). l.retired) ledger_told ∙ none)

    pub record_told : RetiredClear toy (ledger_of toy s buffer calls) → (place slot : ℕ) → slot < slot_count → Interpreted (claimed empty calls ys) place
        → record_in (site_with toy s buffer calls).records place slot ≡ slot_record s slot (history_at toy (claimed empty calls ys) place)
    unfolding meaning
    record_told clear place slot h m =
        record_in_lem (λ slot. slot_record s slot (history_at toy (ledger_of toy s buffer calls) place))
        (λ slot _. record_sized s slot (history_at toy (ledger_of toy s buffer calls) place)) _ place slot h
        (promises.first.shown clear place (subst (λ (l : Ledger). Interpreted l place) (sym ledger_told) m))
        ∙ ap (λ (l : Ledger). slot_record s slot (history_at toy l place)) ledger_told

    -- the numbers of a slot in the part of a place
    pub numbers_told : RetiredClear toy (ledger_of toy s buffer calls) → (place slot : ℕ) → slot < slot_count → Interpreted (claimed empty calls ys) place
        → part_at record_size (part_of (site_with toy s buffer calls).records place) slot ≡ flatten (slot_record s slot (history_at toy (claimed empty calls ys) place))
    unfolding meaning
    numbers_told clear place slot h m =
        ap (λ (part : List ℕ). part_at record_size part slot)
        (promises.first.shown clear place (subst (λ (l : Ledger). Interpreted l place) (sym ledger_told) m)
        ∙ ap (λ (l : Ledger). meaning s (history_at toy l place)) ledger_told)
        ∙ numbers_part (λ slot. slot_record s slot (history_at toy (claimed empty calls ys) place))
        (λ slot _. record_sized s slot (history_at toy (claimed empty calls ys) place)) slot h

-- a buffer of zeros, or of other numbers
pub whole : (n : ℕ) → length (replicate buffer_size n) ≡ buffer_size
whole n = length-replicate buffer_size n

-- the empty table of a lawful setup
start : (s : Setup) → lawful s ≡ true → started s (replicate buffer_size 0) ≡ at (empty_table s)
unfolding fresh_table
start s law = rw law

pub site_answers_lem : (s : Setup) → lawful s ≡ true → (calls : List Call) (ys : List Answer) → told s empty calls ys ≡ ys → answers toy (empty_table s) calls ≡ ys
unfolding answers
site_answers_lem s law calls ys e = ap (λ (x : Site). site_answers toy x calls) (sym (start s law)) ∙ answers_told s law _ (whole 0) calls ys e

-- ---- sessions and campaigns

pub session : (s : Setup) (turns : List Turn) → lawful s ≡ true → told s empty (calls_of turns) (answers_of turns) ≡ answers_of turns → Session s turns
session s turns law e = record { answered = site_answers_lem s law (calls_of turns) (answers_of turns) e }

-- the ledger that the turns leave
unfoldable pub ledger_from : List Turn → Ledger
ledger_from turns = claimed empty (calls_of turns) (answers_of turns)

pub ledger_left_lem : (s : Setup) (turns : List Turn) → lawful s ≡ true → told s empty (calls_of turns) (answers_of turns) ≡ answers_of turns
    → ledger_left s turns ≡ ledger_from turns
unfolding ledger_from
ledger_left_lem s turns law e = ledger_told s law zero_records (whole 0) (calls_of turns) (answers_of turns) e

-- blocks that arrive and are interpreted retire none
pub arriving_unretired : (l : Ledger) (place : ℕ) (steps : List Step)
    → (claimed l (calls_of (arriving place steps)) (answers_of (arriving place steps))).retired ≡ l.retired
unfolding claimed arriving taken
arriving_unretired l place [] = refl
arriving_unretired l place (x ∷ xs) = arriving_unretired (taken (taken l (good x.arrives)) (interpret place)) (suc place) xs

-- a ledger has k places, all of them marked
unfoldable pub all_marked : Ledger → ℕ → Bool
all_marked l k = eqb l.held k && all_below (λ i. eqb (l.mark i) 1) k

module _ (l : Ledger) (k : ℕ) (e : all_marked l k ≡ true) where
  pub marked_held : l.held ≡ k
  unfolding all_marked
  marked_held = eqb-true l.held k (search and_left)

  pub marked_interpreted : (i : ℕ) → i < k → Interpreted l i
  unfolding all_marked
  marked_interpreted i h = record {
    below = rw marked_held h;
    mark = eqb-true (l.mark i) 1 (all_true_at (λ j. eqb (l.mark j) 1) k (search and_right) i h);
  }

-- what the meanings of the blocks at the first k places have as made
unfoldable pub made_by : Setup → ℕ → Ledger → ℕ → List Sent
made_by s slot l k = list_below (λ i. (slot_record s slot (history_at toy l i)).made) k

-- a campaign computes in three: the answers, the marks, and what is made
pub campaign : (s : Setup) (slot : ℕ) (steps : List Step) → lawful s ≡ true → slot < slot_count
    → told s empty (calls_of (arriving 0 steps)) (answers_of (arriving 0 steps)) ≡ answers_of (arriving 0 steps)
    → all_marked (ledger_from (arriving 0 steps)) (length steps) ≡ true
    → made_by s slot (ledger_from (arriving 0 steps)) (length steps) ≡ map (λ x. x.makes) steps
    → Campaign s slot steps
unfolding ledger_from made_by
campaign s slot steps law h e marks made =
    record {
      taken = session s turns law e;
      recorded = list_same _ _ (length steps) (λ i l. ap (λ (r : SlotRecord). r.made)
          (ap (λ (x : Site). record_in (site_after toy x (calls_of turns)).records i slot) (sym (start s law))
          ∙ record_told s law zero_records (whole 0) (calls_of turns) (answers_of turns) e
          (unretired_told s law zero_records (whole 0) (calls_of turns) (answers_of turns) e (arriving_unretired empty 0 steps)) i slot h
          (marked_interpreted (ledger_from turns) (length steps) marks i l))) ∙ made;
    }
  where
    turns : List Turn
    turns = arriving 0 steps
