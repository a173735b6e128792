-- From an arrival's length on, a run writes the lines of the arrivals that are left. Assumes nothing.
use mathlib.Core.Path.{◌≡◌, refl}
use mathlib.Core.Bool.{true, false}
use mathlib.Core.List.{[], ◌∷◌}
use Prim.Native.Nat.{ℕ, zero, suc, ◌+◌, ◌≤◌, ◌<◌}
use native.Mathlib.Omega.{arith}
use lib.ListN.{length, drop}
use lib.Seq.{drop-drop}
use borrow.Author.Tests.{ltb-true, ltb-false}
use Rattle.base.specs.Bytes.{Bytes}
use Rattle.base.proofs.Tests.{by_test}
use Rattle.block.specs.Limits.{max_block_size}
use Rattle.run.specs.Run.{Site}
use Rattle.report.specs.Text.{unread_line}
use Rattle.report.specs.Arrivals.{length_size, verdict_size, block_length, arrival_size, overlong, cut, first_verdict, first_block, after_first}
use Rattle.report.specs.Listing.{site_arrived}
use Rattle.report.specs.Framing.{wanted_by, count_limit, following, expecting, outcome_of, step_by, site_by}
use Rattle.report.specs.declared.Expected.TheVariants.{Length, Block, Skip}
use Rattle.report.specs.declared.ListingState.{ListingState}
use Rattle.report.proofs.Ways.{length_cut, length_over, length_fits}
use Rattle.report.proofs.Frames.{behind_shorter, listing_in, nothing_listed, overlong_listed, cut_listed, whole_listed}
use Rattle.report.proofs.EnoughTurns.{Writes, stops, goes_on, nothing_left}
use Rattle.report.proofs.VerdictAndBlock.{cut_taken, whole_taken}
use Rattle.report.proofs.Skipping.{skipped}

module _ (digest : Bytes → Bytes) where
  abbrev pub Lists : ℕ → Site → Bytes → Type 0
  Lists arrival x b = Writes digest (expecting Length arrival) x b (listing_in digest arrival x b)

  -- no byte, or half of a length
  none_lists : (arrival : ℕ) (x : Site) → Lists arrival x []
  none_lists arrival x = rw (nothing_listed digest arrival x) (nothing_left digest arrival x)

  half_lists : (arrival : ℕ) (x : Site) (high : ℕ) → Lists arrival x (high ∷ [])
  unfolding step_by wanted_by
  half_lists arrival x high =
      rw (cut_listed digest arrival x (high ∷ []) (omega arith) (omega arith))
      (stops digest (expecting Length arrival) x (high ∷ []) arrival (unread_line arrival) (length_cut arrival (high ∷ []) (omega arith) (omega arith)))

  -- a whole length, where what is behind the arrival is listed from every site
  module _ (arrival : ℕ) (x : Site) (high low : ℕ) (input : Bytes) (few : suc arrival < count_limit)
      (then : (y : Site) → Lists (suc arrival) y (after_first (high ∷ low ∷ input))) where
    abbrev b : Bytes
    b = high ∷ low ∷ input

    abbrev size : ℕ
    size = block_length b

    abbrev length_next : ListingState
    length_next = expecting Length arrival

    some : 1 ≤ length b
    some = omega arith

    behind_lists : (y : Site) → Writes digest (expecting Length (following arrival)) y (drop (verdict_size + size) input) (listing_in digest (suc arrival) y (after_first b))
    behind_lists y =
        let counted : following arrival ≡ suc arrival = omega arith in
        rw (counted, drop-drop (verdict_size + size) length_size b) (then y)

    overlong_lists : overlong b ≡ true → Lists arrival x b
    unfolding step_by site_by wanted_by
    overlong_lists long =
        rw (overlong_listed digest arrival x b some long)
        (goes_on digest length_next x b (outcome_of (Skip (verdict_size + size)) (following arrival) (unread_line arrival)) x (listing_in digest (suc arrival) x (after_first b))
        (length_over arrival (high ∷ low ∷ []) (omega arith) long) refl (omega arith) some
        (skipped digest (following arrival) x (verdict_size + size) input (listing_in digest (suc arrival) x (after_first b)) (omega arith) (behind_lists x)))

    module _ (fits : overlong b ≡ false) where
      small : size ≤ max_block_size
      small = ltb-false max_block_size size fits

      block_next : (text : Bytes) → Writes digest (expecting (Block size) arrival) x input text → Writes digest length_next x b text
      unfolding step_by site_by wanted_by
      block_next text w =
          goes_on digest length_next x b (outcome_of (Block size) arrival []) x text
          (length_fits arrival (high ∷ low ∷ []) (omega arith) fits) refl (omega arith) some w

      cut_lists : length b < arrival_size b → Lists arrival x b
      cut_lists short =
          rw (cut_listed digest arrival x b some short) (block_next (unread_line arrival) (cut_taken digest arrival x size input small (omega arith)))

      whole_lists : arrival_size b ≤ length b → Lists arrival x b
      whole_lists whole =
          rw (whole_listed digest arrival x b some fits whole)
          (block_next _ (whole_taken digest arrival x size input small (omega arith) _ (behind_lists (site_arrived digest x (first_block b) (first_verdict b)))))

    length_lists : Lists arrival x b
    length_lists = by_test (overlong b) overlong_lists (λ fits. by_test (cut b)
        (λ short. cut_lists fits (ltb-true (length b) (arrival_size b) short))
        (λ whole. whole_lists fits (ltb-false (length b) (arrival_size b) whole)))

  first_lists : (arrival : ℕ) (x : Site) (b : Bytes) → arrival + length b < count_limit
      → (1 ≤ length b → (y : Site) → Lists (suc arrival) y (after_first b)) → Lists arrival x b
  first_lists arrival x [] few then = none_lists arrival x
  first_lists arrival x (high ∷ []) few then = half_lists arrival x high
  first_lists arrival x (high ∷ low ∷ b) few then = length_lists arrival x high low b (omega arith) (then (omega arith))

  -- for every input of at most n bytes
  lists_within : (n arrival : ℕ) (x : Site) (b : Bytes) → length b ≤ n → arrival + length b < count_limit → Lists arrival x b
  lists_within zero arrival x b h few = first_lists arrival x b few (λ some y. absurd (omega arith))
  lists_within (suc n) arrival x b h few = first_lists arrival x b few
      (λ some y. lists_within n (suc arrival) y (after_first b) (omega (arith, behind_shorter b some)) (omega (arith, behind_shorter b some)))

  pub lists : (arrival : ℕ) (x : Site) (b : Bytes) → arrival + length b < count_limit → Lists arrival x b
  lists arrival x b few = lists_within (length b) arrival x b (omega arith) few
