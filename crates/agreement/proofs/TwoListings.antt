-- Two listings of one lawful setup: no interpretation is refused, and where at most f sites forked no slot has two numbers, in what is shown and
-- in the lines of the texts. Assumes nothing; what is taken as given (no collision, few forks) stands in the promises themselves.
use mathlib.Core.Path.{◌≡◌, refl, sym, ap, ◌∙◌, subst}
use mathlib.Core.Bool.{true}
use mathlib.Core.Logic.{inl, inr}
use mathlib.Core.List.Memᴰ
use mathlib.Core.List.{List, [], Memᴰ}
use Prim.Native.Nat.{ℕ, ◌<◌}
use native.Mathlib.Omega.{arith}
use lib.ListN.{length, drop}
use Rattle.base.specs.Bytes.{Bytes}
use Rattle.sha256.specs.Sha256.{sha256}
use Rattle.sha256.proofs.Promises.{sha256_length}
use Rattle.setup.specs.Setup.{Setup, lawful, slot_count}
use Rattle.records.specs.Layout.{buffer_size}
use Rattle.history.specs.Forks.{NoCollision}
use Rattle.run.specs.Ledger.{empty, ledger_after}
use Rattle.run.specs.Run.{started, site_after}
use Rattle.run.specs.Promises.{Delivered, ledger_of}
use Rattle.run.proofs.Runs.{RunInvariant}
use Rattle.run.proofs.Promises.{run}
use Rattle.report.specs.declared.Delivery.{Delivery}
use Rattle.report.specs.Text.{delivery_line}
use Rattle.report.specs.Arrivals.{Arrival, setup_size, setup_in, arrivals_in}
use Rattle.report.specs.ListingCalls.{arrival_calls, ListingShows}
use Rattle.report.specs.Lines.{lines_in, text}
use Rattle.report.proofs.InterpretationInvariant.{InterpretationInvariant, none_refused}
use Rattle.report.proofs.Deliveries.{shows_delivered}
use Rattle.report.proofs.ListingText.{text_keeps}
use Rattle.agreement.specs.TwoListings.{TwoListings, TwoTexts}
use Rattle.agreement.proofs.TwoSites.{theorem}

-- the blocks that a listing admitted
abbrev admitted : Setup → List ℕ → List Arrival → List Bytes
admitted s buffer arrivals = (ledger_of sha256 s buffer (arrival_calls (started s buffer) arrivals)).blocks

module _ (s : Setup) (law : lawful s ≡ true) (buffer : List ℕ) where
  -- before the first arrival
  start_invariant : RunInvariant sha256 sha256_length s (length buffer) empty (started s buffer)
  unfolding ledger_after site_after
  start_invariant = run sha256 sha256_length s law buffer []

  start_interpreted : length buffer ≡ buffer_size → InterpretationInvariant (started s buffer)
  start_interpreted whole =
      record {
        formed = start_invariant.simulated.formed;
        interpreted = λ i h. absurd (omega (arith, start_invariant.simulated.count));
        whole = whole;
      }

  delivered : (arrivals : List Arrival) → NoCollision sha256 (admitted s buffer arrivals)
      → (slot v : ℕ) → slot < slot_count → ListingShows (started s buffer) arrivals slot v
      → Delivered sha256 s (ledger_of sha256 s buffer (arrival_calls (started s buffer) arrivals)) slot v
  delivered = shows_delivered s (length buffer) empty (started s buffer) start_invariant

pub two_listings : (s : Setup) (buffer₁ buffer₂ : List ℕ) (arrivals₁ arrivals₂ : List Arrival) → lawful s ≡ true → TwoListings s buffer₁ buffer₂ arrivals₁ arrivals₂
two_listings s buffer₁ buffer₂ arrivals₁ arrivals₂ law =
    record {
      settled = λ whole. none_refused (started s buffer₁) (start_interpreted s law buffer₁ whole) arrivals₁;
      one_number = λ safe few slot v w low first second.
          (theorem s law buffer₁ buffer₂ (arrival_calls (started s buffer₁) arrivals₁) (arrival_calls (started s buffer₂) arrivals₂)).agreement safe few slot v w low
          (inl (delivered s law buffer₁ arrivals₁ (λ a b m n. safe a b (Memᴰ.append_left (admitted s buffer₂ arrivals₂) m) (Memᴰ.append_left (admitted s buffer₂ arrivals₂) n)) slot v low first))
          (inr (delivered s law buffer₂ arrivals₂ (λ a b m n. safe a b (Memᴰ.append_right (admitted s buffer₁ arrivals₁) m) (Memᴰ.append_right (admitted s buffer₁ arrivals₁) n)) slot w low second));
    }

-- a delivery's line of a text shows its number
line_shows : (buffer : List ℕ) (input : Bytes) → lawful (setup_in input) ≡ true → (d : Delivery) → Memᴰ (delivery_line d) (lines_in (text buffer input))
    → ListingShows (started (setup_in input) buffer) (arrivals_in (drop setup_size input)) d.slot d.number
line_shows buffer input law d m =
    let keeps = text_keeps buffer input in
    (keeps.shown law d.slot d.number (keeps.slots d m)).1 (record { delivery = d; in_slot = refl; is_number = refl; stands = m })

pub two_texts : (buffer₁ buffer₂ : List ℕ) (input₁ input₂ : Bytes) → TwoTexts buffer₁ buffer₂ input₁ input₂
two_texts buffer₁ buffer₂ input₁ input₂ =
    record {
      one_number = λ law same safe few d e m n q.
          let s : Setup = setup_in input₁ in
          let second : ListingShows (started s buffer₂) (arrivals_in (drop setup_size input₂)) d.slot e.number =
          subst (λ (k : ℕ). ListingShows (started s buffer₂) (arrivals_in (drop setup_size input₂)) k e.number) (sym q)
          (subst (λ (z : Setup). ListingShows (started z buffer₂) (arrivals_in (drop setup_size input₂)) e.slot e.number) same (line_shows buffer₂ input₂ (ap lawful same ∙ law) e n)) in
          (two_listings s buffer₁ buffer₂ (arrivals_in (drop setup_size input₁)) (arrivals_in (drop setup_size input₂)) law).one_number safe few d.slot d.number e.number
          ((text_keeps buffer₁ input₁).slots d m) (line_shows buffer₁ input₁ law d m) second;
    }
