-- A run that skips bytes writes what one from an arrival's length on writes behind them, and nothing where not all of them are there. Assumes
-- nothing.
use mathlib.Core.Path.{◌≡◌, refl, sym, ap, ◌∙◌}
use mathlib.Core.List.{[]}
use Prim.Native.Nat.{ℕ, zero, suc, ◌+◌, ◌-◌, ◌≤◌, ◌<◌, min}
use native.Mathlib.Omega.{arith}
use lib.Dec.{leb, ltb}
use lib.ListN.{length, take, drop, length-take, length-drop, drop_of_length-le}
use lib.Seq.{drop-drop}
use borrow.Author.Tests.{ltb-true, ltb-false, leb-true, leb-false}
use Rattle.base.specs.Bytes.{Bytes}
use Rattle.base.proofs.Tests.{by_test}
use Rattle.run.specs.Run.{Site}
use Rattle.report.specs.Framing.{piece_size, wanted_by, expecting, outcome_of, step_by, site_by, run}
use Rattle.report.specs.declared.Expected.TheVariants.{Length, Skip}
use Rattle.report.specs.declared.ListingState.{ListingState}
use Rattle.report.proofs.Ways.{skip_cut, skip_last, skip_more}
use Rattle.report.proofs.EnoughTurns.{Writes, stops, goes_on, nothing_left}

module _ (digest : Bytes → Bytes) (arrival : ℕ) (x : Site) where
  abbrev length_next : ListingState
  length_next = expecting Length arrival

  abbrev skipping : ℕ → ListingState
  skipping left = expecting (Skip left) arrival

  -- one step
  module _ (left : ℕ) (input text : Bytes) where
    abbrev size : ℕ
    size = min left piece_size

    abbrev piece : Bytes
    piece = take size input

    cut_skipped : length input < size → Writes digest length_next x (drop left input) text → Writes digest (skipping left) x input text
    unfolding step_by wanted_by
    cut_skipped short w turns h =
        stops digest (skipping left) x input arrival [] (skip_cut arrival piece left (omega (arith, length-take size input))) turns h ∙ sym nothing
      where
        none : drop left input ≡ []
        none = drop_of_length-le input {i = left} (omega arith)

        nothing : text ≡ []
        nothing = sym (w 1 (omega (arith, length-drop left input))) ∙ ap (run digest 1 length_next x) none ∙ nothing_left digest arrival x 1 (omega arith)

    module _ (there : size ≤ length input) where
      whole : length piece ≡ size
      whole = length-take size input ∙ omega arith

      last_skipped : 1 ≤ left → left ≤ piece_size → Writes digest length_next x (drop left input) text → Writes digest (skipping left) x input text
      unfolding step_by site_by wanted_by
      last_skipped some last w =
          let e : size ≡ left = omega arith in
          goes_on digest (skipping left) x input (outcome_of Length arrival []) x text
          (skip_last arrival piece left last (omega (arith, whole))) refl (omega arith) (omega arith) (rw e w)

      more_skipped : piece_size < left → Writes digest (skipping (left - piece_size)) x (drop piece_size input) text → Writes digest (skipping left) x input text
      unfolding step_by site_by wanted_by
      more_skipped more w =
          let e : size ≡ piece_size = omega arith in
          goes_on digest (skipping left) x input (outcome_of (Skip (left - piece_size)) arrival []) x text
          (skip_more arrival piece left more (omega (arith, whole))) refl (omega arith) (omega arith) (rw e w)

  -- for at most n bytes
  skipped_within : (n left : ℕ) (input text : Bytes) → left ≤ n → 1 ≤ left
      → Writes digest length_next x (drop left input) text → Writes digest (skipping left) x input text
  skipped_within zero left input text h some w = absurd (omega arith)
  skipped_within (suc n) left input text h some w = by_test (ltb (length input) (min left piece_size))
      (λ short. cut_skipped left input text (ltb-true (length input) (min left piece_size) short) w)
      (λ whole.
      let there : min left piece_size ≤ length input = ltb-false (length input) (min left piece_size) whole in
      by_test (leb left piece_size)
      (λ last. last_skipped left input text there some (leb-true left piece_size last) w)
      (λ long.
      let more : piece_size < left = leb-false left piece_size long in
      let e : piece_size + (left - piece_size) ≡ left = omega arith in
      more_skipped left input text there more
      (skipped_within n (left - piece_size) (drop piece_size input) text (omega arith) (omega arith) (rw (drop-drop (left - piece_size) piece_size input, e) w))))

  pub skipped : (left : ℕ) (input text : Bytes) → 1 ≤ left
      → Writes digest (expecting Length arrival) x (drop left input) text → Writes digest (expecting (Skip left) arrival) x input text
  skipped left input text some w = skipped_within left left input text (omega arith) some w
