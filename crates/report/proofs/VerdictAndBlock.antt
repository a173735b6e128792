-- What a run writes from the verdict and the block of an arrival, which are whole or cut. Assumes nothing.
use mathlib.Core.Path.{◌≡◌, ap, ap₂, ◌∙◌}
use mathlib.Core.List.{◌++◌}
use Prim.Native.Nat.{ℕ, ◌+◌, ◌≤◌, ◌<◌, min}
use native.Mathlib.Omega.{arith}
use lib.ListN.{length, get_or, take, drop, length-take}
use lib.Seq.{get_or-take}
use Rattle.base.specs.Bytes.{Bytes}
use Rattle.base.proofs.Parts.{part_of_front}
use Rattle.block.specs.Limits.{max_block_size}
use Rattle.run.specs.Run.{Site}
use Rattle.report.specs.Text.{unread_line}
use Rattle.report.specs.Arrivals.{verdict_size}
use Rattle.report.specs.Listing.{site_arrived, arrival_lines}
use Rattle.report.specs.Framing.{wanted_by, following, expecting, outcome_of, step_by}
use Rattle.report.specs.declared.Expected.TheVariants.{Length, Block}
use Rattle.report.specs.declared.ListingState.{ListingState}
use Rattle.report.proofs.Ways.{block_cut, block_whole, site_whole}
use Rattle.report.proofs.EnoughTurns.{Writes, stops, goes_on}

module _ (digest : Bytes → Bytes) (arrival : ℕ) (x : Site) (size : ℕ) (input : Bytes) (fits : size ≤ max_block_size) where
  abbrev state : ListingState
  state = expecting (Block size) arrival

  abbrev piece : Bytes
  piece = take (wanted_by (Block size)) input

  all_wanted : wanted_by (Block size) ≡ verdict_size + size
  unfolding wanted_by
  all_wanted = omega arith

  piece_length : length piece ≡ min (verdict_size + size) (length input)
  piece_length = length-take (wanted_by (Block size)) input ∙ ap (λ (n : ℕ). min n (length input)) all_wanted

  pub cut_taken : length input < verdict_size + size → Writes digest (expecting (Block size) arrival) x input (unread_line arrival)
  unfolding step_by
  cut_taken short = stops digest state x input arrival (unread_line arrival) (block_cut digest size arrival x piece (omega (arith, piece_length)))

  module _ (whole : verdict_size + size ≤ length input) where
    abbrev verdict : ℕ
    verdict = get_or input 0 0

    abbrev block : Bytes
    block = take size (drop verdict_size input)

    there : verdict_size + size ≤ length piece
    there = omega (arith, piece_length)

    same_block_lem : take size (drop verdict_size piece) ≡ block
    same_block_lem = part_of_front verdict_size size (wanted_by (Block size)) input (omega (arith, all_wanted))

    same_verdict : get_or piece 0 0 ≡ verdict
    same_verdict = get_or-take (wanted_by (Block size)) input 0 0 (omega (arith, all_wanted))

    pub whole_taken : (text : Bytes)
        → Writes digest (expecting Length (following arrival)) (site_arrived digest x (take size (drop verdict_size input)) (get_or input 0 0))
        (drop (verdict_size + size) input) text
        → Writes digest (expecting (Block size) arrival) x input (arrival_lines digest x (take size (drop verdict_size input)) (get_or input 0 0) arrival ++ text)
    unfolding step_by
    whole_taken text w =
        goes_on digest state x input (outcome_of Length (following arrival) (arrival_lines digest x block verdict arrival)) (site_arrived digest x block verdict) text
        (block_whole digest size arrival x piece there
        ∙ ap₂ (λ (b : Bytes) (v : ℕ). outcome_of Length (following arrival) (arrival_lines digest x b v arrival)) same_block_lem same_verdict)
        (site_whole digest size arrival x piece there ∙ ap₂ (site_arrived digest x) same_block_lem same_verdict)
        (omega (arith, all_wanted)) (omega arith) (rw all_wanted w)
