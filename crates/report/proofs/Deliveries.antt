-- What a line of a listing shows delivered is delivered in the ledger of the listing's calls. Assumes nothing.
use mathlib.Core.Path.{◌≡◌, refl, sym, ap, ◌∙◌, subst}
use mathlib.Core.Bool.{Bool, cond}
use mathlib.Core.Logic.{◌≢◌, inl}
use mathlib.Core.List.{List, [], ◌∷◌}
use Prim.Native.Nat.{ℕ, ◌<◌}
use native.Mathlib.Omega.{arith}
use borrow.Author.Tests.{eq-eqb}
use Rattle.base.specs.Bytes.{Bytes}
use Rattle.sha256.specs.Sha256.{sha256}
use Rattle.sha256.proofs.Promises.{sha256_length}
use Rattle.setup.specs.Setup.{Setup, slot_count}
use Rattle.broadcast.specs.declared.SlotRecord.{SlotRecord}
use Rattle.broadcast.proofs.Steps.Entry.{delivery_entry}
use Rattle.table.specs.Layout.{count_of, mark_at}
use Rattle.table.specs.Promises.{Marked}
use Rattle.records.specs.Layout.{part_of, record_in, delivered_in, numbers_of}
use Rattle.records.proofs.Parts.{record_in_lem}
use Rattle.interpret.proofs.Promises.{promises}
use Rattle.history.specs.History.{History, node, slot_record, meaning}
use Rattle.history.specs.Forks.{NoCollision}
use Rattle.history.proofs.Meanings.{record_sized, record_made}
use Rattle.run.specs.Ledger.{Call, Ledger, ledger_after}
use Rattle.run.specs.Run.{Site, site_answer}
use Rattle.run.specs.Promises.{Interpreted, history_at, Delivered}
use Rattle.run.proofs.Runs.{RunInvariant, run_invariant}
use Rattle.run.proofs.Growth.{after_keeps}
use Rattle.run.proofs.LedgerPlaces.{place_history, safe_clear}
use Rattle.run.proofs.Promises.{delivered_is}
use Rattle.report.specs.Arrivals.{Arrival, arrived, unread}
use Rattle.report.specs.Listing.{admission_answer, site_arrived, arrival_refusal}
use Rattle.report.specs.ListingCalls.{arrival_calls, ListingShows, here, later, past}
use Rattle.report.proofs.Calls.{place, entered, second, both, passed_site, passed_refusal, accepted, calls_at, site_after_calls, none_back}
use Rattle.report.proofs.DeliveryPermanence.{ledger_after_both, delivered_stays}

-- ---- an arrival that is not refused leaves its place held and interpreted

record Marks (x : Site) (i : ℕ) : Type 0 where
  held : i < count_of x.table
  mark : mark_at x.table i ≡ 1

module _ (x : Site) (b : Bytes) (verdict : ℕ) (z : arrival_refusal sha256 x b verdict ≡ 0) where
  interpretation_passed : second x b verdict ≡ 0
  interpretation_passed = sym (passed_refusal x b verdict (accepted x b verdict z)) ∙ z

  marks : Marks (site_arrived sha256 x b verdict) (admission_answer sha256 x b verdict).value
  unfolding site_answer
  marks =
      let i : ℕ = place x b verdict in
      let t : Bytes = entered x b verdict in
      let m : Marked t (both x b verdict).table i = promises.shown t x.records i interpretation_passed in
      let found = ((promises.causes t x.records i).none.0 interpretation_passed).0 in
      subst (λ (y : Site). Marks y i) (sym (passed_site x b verdict (accepted x b verdict z)))
      (record { held = omega (arith, m.count, found.place_held.below); mark = (m.rows i).mark ∙ ap (λ (z : Bool). cond z 1 (mark_at t i)) (eq-eqb i i refl) })

-- ---- the number delivered in the block of such a place

-- what is made in a block is what it has sent
made_sent : (s : Setup) (slot : ℕ) (h : History) → (slot_record s slot h).made.delivered ≢ 0
    → (slot_record s slot h).made.delivered ≡ (slot_record s slot h).sent.delivered
made_sent s slot (node b hs) n = (record_made s slot b hs delivery_entry n).0

module _ (s : Setup) (size : ℕ) where
  -- site and ledger have had the same calls
  abbrev Paired : Ledger → Site → Type 0
  Paired = RunInvariant sha256 sha256_length s size

  place_delivered : (l : Ledger) (x : Site) → Paired l x → NoCollision sha256 l.blocks → (i slot v : ℕ) → Marks x i → slot < slot_count → delivered_in x.records i slot ≡ v → v ≢ 0
      → Delivered sha256 s l slot v
  unfolding meaning
  place_delivered l x t safe i slot v m low e n =
      record {
        block = l.block i;
        is_interpreted = inl (i, interpreted, refl);
        not_zero = n;
        entry = delivered_is s history slot low ∙ sym (made_sent s slot history (λ z. n (sym made ∙ z))) ∙ made;
      }
    where
      history : History
      history = history_at sha256 l i

      interpreted : Interpreted l i
      interpreted = record { below = omega (arith, m.held, t.simulated.count); mark = sym (t.simulated.rows i m.held).mark ∙ m.mark }

      part : part_of x.records i ≡ numbers_of (λ slot. slot_record s slot history)
      part =
          t.known.shown i interpreted.below interpreted.mark
          ∙ ap (meaning s) (sym (place_history sha256 sha256_length s size l x t (safe_clear sha256 sha256_length s size l x t safe) i interpreted.below))

      its : record_in x.records i slot ≡ slot_record s slot history
      its = record_in_lem (λ slot. slot_record s slot history) (λ slot _. record_sized s slot history) x.records i slot low part

      made : (slot_record s slot history).made.delivered ≡ v
      made = ap (λ (r : SlotRecord). r.made.delivered) (sym its) ∙ e

  -- ---- every line

  abbrev after : Ledger → List Call → Ledger
  after = ledger_after sha256 s size

  module _ (l : Ledger) (x : Site) (t : Paired l x) (b : Bytes) (verdict : ℕ) where
    -- the arrival's calls
    pair_after : Paired (after l (calls_at x b verdict)) (site_arrived sha256 x b verdict)
    pair_after =
        subst (Paired (after l (calls_at x b verdict))) (site_after_calls x b verdict) (run_invariant sha256 sha256_length s size l x t (calls_at x b verdict))

    -- and then the calls of the rest
    rest_after : (rest : List Arrival) → after l (arrival_calls x (arrived b verdict ∷ rest)) ≡ after (after l (calls_at x b verdict)) (arrival_calls (site_arrived sha256 x b verdict) rest)
    unfolding arrival_calls
    rest_after rest = ledger_after_both sha256 s size l (calls_at x b verdict) (arrival_calls (site_arrived sha256 x b verdict) rest)

    safe_rest : (rest : List Arrival) → NoCollision sha256 (after l (arrival_calls x (arrived b verdict ∷ rest))).blocks
        → NoCollision sha256 (after (after l (calls_at x b verdict)) (arrival_calls (site_arrived sha256 x b verdict) rest)).blocks
    safe_rest rest = subst (λ (m : Ledger). NoCollision sha256 m.blocks) (rest_after rest)

    then_rest : (rest : List Arrival) (slot v : ℕ) → Delivered sha256 s (after (after l (calls_at x b verdict)) (arrival_calls (site_arrived sha256 x b verdict) rest)) slot v
        → Delivered sha256 s (after l (arrival_calls x (arrived b verdict ∷ rest))) slot v
    then_rest rest slot v = subst (λ (m : Ledger). Delivered sha256 s m slot v) (sym (rest_after rest))

  pub shows_delivered : (l : Ledger) (x : Site) → Paired l x → (arrivals : List Arrival) → NoCollision sha256 (after l (arrival_calls x arrivals)).blocks
      → (slot v : ℕ) → slot < slot_count → ListingShows x arrivals slot v → Delivered sha256 s (after l (arrival_calls x arrivals)) slot v
  unfolding arrival_calls
  shows_delivered l x t [] safe slot v low m = elim m [ ]
  shows_delivered l x t (unread ∷ rest) safe slot v low (past m) = shows_delivered l x t rest safe slot v low m
  shows_delivered l x t (arrived b verdict ∷ rest) safe slot v low (here z e n) =
      let next : Ledger = after l (calls_at x b verdict) in
      let all : NoCollision sha256 (after next (arrival_calls (site_arrived sha256 x b verdict) rest)).blocks = safe_rest l x t b verdict rest safe in
      let none = none_back (site_arrived sha256 x b verdict) rest in
      let keeps = after_keeps sha256 s size next (arrival_calls (site_arrived sha256 x b verdict) rest) none in
      then_rest l x t b verdict rest slot v
      (delivered_stays sha256 sha256_length s size slot v _ _ (pair_after l x t b verdict) (arrival_calls (site_arrived sha256 x b verdict) rest) none all
      (place_delivered _ _ (pair_after l x t b verdict) (λ c d i j. all c d (keeps c i) (keeps d j)) _ slot v (marks x b verdict z) low e n))
  shows_delivered l x t (arrived b verdict ∷ rest) safe slot v low (later m) =
      then_rest l x t b verdict rest slot v (shows_delivered (after l (calls_at x b verdict)) (site_arrived sha256 x b verdict) (pair_after l x t b verdict) rest (safe_rest l x t b verdict rest safe) slot v low m)
