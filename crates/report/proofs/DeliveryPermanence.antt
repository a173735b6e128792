-- What a ledger has delivered stays delivered, whatever calls follow that take nothing back: a block keeps its mark and its history. Assumes nothing;
-- that no two different blocks share a digest stands where it is needed.
use mathlib.Core.Path.{◌≡◌, refl, sym, ap, ◌∙◌}
use mathlib.Core.Bool.{Bool, false, cond}
use mathlib.Core.Logic.{inl, inr}
use mathlib.Core.List.{List, [], ◌∷◌, ◌++◌, Memᴰ}
use Prim.Native.Nat.{ℕ, zero, suc, ◌+◌, ◌*◌}
use native.Mathlib.Omega.{arith}
use lib.Dec.{eqb}
use lib.ListN.{length, get_or}
use borrow.Author.Tests.{ne_eqb}
use Rattle.base.specs.Bytes.{Bytes}
use Rattle.base.proofs.Tests.{by_test, true_not_false}
use Rattle.setup.specs.Setup.{Setup}
use Rattle.block.specs.Limits.{reference_size}
use Rattle.records.specs.Layout.{record_size}
use Rattle.history.specs.History.{History, meaning}
use Rattle.history.specs.Ancestry.{history_of}
use Rattle.history.specs.Forks.{NoCollision}
use Rattle.history.proofs.Ancestry.{history_agree}
use Rattle.run.specs.Ledger.{Call, admit, interpret, retire, take_back, Ledger, taken, ledger_answer, ledger_step, ledger_after}
use Rattle.run.specs.Run.{Site, site_step}
use Rattle.run.specs.Promises.{InterpretedBlock, delivered_entry, Delivered}
use Rattle.run.proofs.Runs.{RunInvariant, step_invariant}
use Rattle.run.proofs.Growth.{is_taking_back, NoneBack, step_keeps, after_keeps}
use Rattle.run.proofs.LedgerPlaces.{interpreted_among, one_history_each, safe_clear}

-- a list of calls, and then another
pub ledger_after_both : (digest : Bytes → Bytes) (s : Setup) (size : ℕ) (l : Ledger) (first second : List Call)
    → ledger_after digest s size l (first ++ second) ≡ ledger_after digest s size (ledger_after digest s size l first) second
unfolding ledger_after
ledger_after_both digest s size l [] second = refl
ledger_after_both digest s size l (c ∷ first) second = ledger_after_both digest s size (ledger_step digest s size l c) first second

module _ (digest : Bytes → Bytes) (sized : (b : Bytes) → length (digest b) ≡ reference_size) (s : Setup) (size slot v : ℕ) where
  interpreted_stays : (l : Ledger) (c : Call) → is_taking_back c ≡ false → (b : Bytes) → InterpretedBlock l b → InterpretedBlock (taken l c) b
  unfolding taken
  interpreted_stays l (admit a verdict) n b (inl (i, w, e)) =
      let other = ne_eqb i l.held (λ q. absurd (omega (arith, w.below))) in
      inl (i, record { below = omega (arith, w.below); mark = ap (λ (z : Bool). cond z 0 (l.mark i)) other ∙ w.mark }, e ∙ sym (ap (λ (z : Bool). cond z a (l.block i)) other))
  interpreted_stays l (admit a verdict) n b (inr m) = inr m
  interpreted_stays l (interpret place) n b (inl (i, w, e)) = inl (i, record { below = w.below; mark = by_test (eqb i place) (λ y. rw y) (λ z. rw z w.mark) }, e)
  interpreted_stays l (interpret place) n b (inr m) = inr m
  interpreted_stays l retire n b (inl (zero, w, e)) = inr (Memᴰ.head e)
  interpreted_stays l retire n b (inl (suc i, w, e)) = inl (i, record { below = omega (arith, w.below); mark = w.mark }, e)
  interpreted_stays l retire n b (inr m) = inr (Memᴰ.tail m)
  interpreted_stays l take_back n b w = true_not_false refl n

  module _ (l : Ledger) (x : Site) (t : RunInvariant digest sized s size l x) (c : Call) (keeping : is_taking_back c ≡ false) where
    abbrev l' : Ledger
    l' = ledger_step digest s size l c

    step_interpreted : (b : Bytes) → InterpretedBlock l b → InterpretedBlock l' b
    unfolding ledger_step
    step_interpreted b i = by_test (eqb (ledger_answer digest s size l c).refusal 0) (λ y. rw y (interpreted_stays l c keeping b i)) (λ n. rw n i)

    -- a block keeps its history
    history_stays : NoCollision digest l'.blocks → (b : Bytes) → Memᴰ b l.blocks → history_of digest l.blocks b ≡ history_of digest l'.blocks b
    history_stays safe b m =
        history_agree digest l.blocks l'.blocks
        (one_history_each digest sized s size l x t (safe_clear digest sized s size l x t (λ d e i j. safe d e (later d i) (later e j))))
        (one_history_each digest sized s size l' _ t' (safe_clear digest sized s size l' _ t' safe))
        (λ d e i. safe d e (later d i)) b m (later b m)
      where
        later : (d : Bytes) → Memᴰ d l.blocks → Memᴰ d l'.blocks
        later = step_keeps digest s size l c keeping

        t' : RunInvariant digest sized s size l' (site_step digest x c)
        t' = step_invariant digest sized s size l x t c

    step_stays : NoCollision digest l'.blocks → Delivered digest s l slot v → Delivered digest s l' slot v
    step_stays safe d =
        let m = interpreted_among digest sized s size l x t d.block d.is_interpreted in
        record {
          block = d.block;
          is_interpreted = step_interpreted d.block d.is_interpreted;
          not_zero = d.not_zero;
          entry = ap (λ (h : History). get_or (meaning s h) (record_size * slot + delivered_entry) 0) (sym (history_stays safe d.block m)) ∙ d.entry;
        }

  pub delivered_stays : (l : Ledger) (x : Site) → RunInvariant digest sized s size l x → (calls : List Call) → NoneBack calls → NoCollision digest (ledger_after digest s size l calls).blocks
      → Delivered digest s l slot v → Delivered digest s (ledger_after digest s size l calls) slot v
  unfolding ledger_after
  delivered_stays l x t [] none safe d = d
  delivered_stays l x t (c ∷ calls) none safe d =
      let keeps = after_keeps digest s size (ledger_step digest s size l c) calls none.1 in
      delivered_stays (ledger_step digest s size l c) (site_step digest x c) (step_invariant digest sized s size l x t c) calls none.1 safe
      (step_stays l x t c none.0 (λ a b i j. safe a b (keeps a i) (keeps b j)) d)
