-- Each way out of a step that gets a piece: what is there of it, and the outcome. Assumes nothing.
use mathlib.Core.Path.{◌≡◌}
use mathlib.Core.Bool.{true, false}
use mathlib.Core.Logic.{◌≢◌}
use mathlib.Core.List.{[], ◌++◌}
use Prim.Native.Nat.{ℕ, ◌+◌, ◌-◌, ◌≤◌, ◌<◌, min}
use native.Mathlib.Omega.{arith}
use borrow.Author.Tests.{lt-ltb, le-ltb, le-leb, lt-leb, eq-eqb, ne_eqb}
use lib.ListN.{length, get_or, take, drop}
use Rattle.base.specs.Bytes.{Bytes}
use Rattle.table.specs.Fresh.{fresh_answer}
use Rattle.run.specs.Run.{Site}
use Rattle.report.specs.Text.{names, setup_line, unread_line}
use Rattle.report.specs.Arrivals.{setup_in, length_size, verdict_size, block_length, overlong}
use Rattle.report.specs.Listing.{site_arrived, arrival_lines}
use Rattle.report.specs.Framing.{piece_size, wanted_by, following, outcome_of, setup_step, length_step, skip_step, block_step, site_by}
use Rattle.report.specs.declared.Expected.TheVariants.{Length, Block, Skip, End}

module _ (table piece : Bytes) where
  pub setup_refused : (fresh_answer (setup_in piece) table).refusal ≢ 0
      → setup_step table piece ≡ outcome_of End 0 (names ++ setup_line (fresh_answer (setup_in piece) table).refusal)
  unfolding setup_step
  setup_refused some = rw (ne_eqb (fresh_answer (setup_in piece) table).refusal 0 some)

  pub setup_made : (fresh_answer (setup_in piece) table).refusal ≡ 0 → setup_step table piece ≡ outcome_of Length 0 names
  unfolding setup_step
  setup_made e = rw (eq-eqb (fresh_answer (setup_in piece) table).refusal 0 e)

module _ (arrival : ℕ) (piece : Bytes) where
  pub length_none : length piece ≡ 0 → length_step arrival piece ≡ outcome_of End arrival []
  unfolding length_step
  length_none e = rw (eq-eqb (length piece) 0 e)

  pub length_cut : 1 ≤ length piece → length piece < length_size → length_step arrival piece ≡ outcome_of End arrival (unread_line arrival)
  unfolding length_step
  length_cut h g = rw (ne_eqb (length piece) 0 (λ e. omega arith), lt-ltb (length piece) length_size g)

  module _ (there : length_size ≤ length piece) where
    pub length_over : overlong piece ≡ true
        → length_step arrival piece ≡ outcome_of (Skip (verdict_size + block_length piece)) (following arrival) (unread_line arrival)
    unfolding length_step
    length_over long = rw (ne_eqb (length piece) 0 (λ e. omega arith), le-ltb (length piece) length_size there, long)

    pub length_fits : overlong piece ≡ false → length_step arrival piece ≡ outcome_of (Block (block_length piece)) arrival []
    unfolding length_step
    length_fits fits = rw (ne_eqb (length piece) 0 (λ e. omega arith), le-ltb (length piece) length_size there, fits)

  module _ (left : ℕ) where
    pub skip_cut : length piece < min left piece_size → skip_step left arrival piece ≡ outcome_of End arrival []
    unfolding skip_step wanted_by
    skip_cut h = rw (lt-ltb (length piece) (min left piece_size) h)

    pub skip_last : left ≤ piece_size → left ≤ length piece → skip_step left arrival piece ≡ outcome_of Length arrival []
    unfolding skip_step wanted_by
    skip_last h g = rw (le-ltb (length piece) (min left piece_size) (omega arith), le-leb left piece_size h)

    pub skip_more : piece_size < left → piece_size ≤ length piece → skip_step left arrival piece ≡ outcome_of (Skip (left - piece_size)) arrival []
    unfolding skip_step wanted_by
    skip_more h g = rw (le-ltb (length piece) (min left piece_size) (omega arith), lt-leb left piece_size h)

module _ (digest : Bytes → Bytes) (size arrival : ℕ) (x : Site) (piece : Bytes) where
  abbrev verdict : ℕ
  verdict = get_or piece 0 0

  abbrev block : Bytes
  block = take size (drop verdict_size piece)

  module _ (short : length piece < verdict_size + size) where
    pub block_cut : block_step digest size arrival x piece ≡ outcome_of End arrival (unread_line arrival)
    unfolding block_step
    block_cut = rw (lt-ltb (length piece) (verdict_size + size) short)

    pub site_cut : site_by digest (Block size) x piece ≡ x
    unfolding site_by
    site_cut = rw (lt-ltb (length piece) (verdict_size + size) short)

  module _ (there : verdict_size + size ≤ length piece) where
    pub block_whole : block_step digest size arrival x piece ≡ outcome_of Length (following arrival) (arrival_lines digest x block verdict arrival)
    unfolding block_step
    block_whole = rw (le-ltb (length piece) (verdict_size + size) there)

    pub site_whole : site_by digest (Block size) x piece ≡ site_arrived digest x block verdict
    unfolding site_by
    site_whole = rw (le-ltb (length piece) (verdict_size + size) there)
