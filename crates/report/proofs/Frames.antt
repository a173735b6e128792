-- The arrivals of an input are the arrival at the front, which takes at least one byte, and the arrivals of the bytes behind it; and so with their
-- lines. Assumes nothing.
use mathlib.Core.Path.{◌≡◌, refl, sym, ap, ◌∙◌}
use mathlib.Core.Bool.{true, false}
use mathlib.Core.List.{List, [], ◌∷◌, ◌++◌, append-nil}
use Prim.Native.Nat.{ℕ, zero, suc, ◌≤◌, ◌<◌}
use native.Mathlib.Omega.{arith}
use lib.ListN.{length, length-drop, drop_of_length-le}
use borrow.Author.Tests.{lt-ltb, le-ltb}
use Rattle.base.specs.Bytes.{Bytes}
use Rattle.base.proofs.Tests.{by_test}
use Rattle.run.specs.Run.{Site}
use Rattle.report.specs.Text.{unread_line}
use Rattle.report.specs.Arrivals.{Arrival, arrived, unread, arrival_size, overlong, first_verdict, first_block, after_first, first_arrival, arrivals, arrivals_in}
use Rattle.report.specs.Listing.{site_arrived, arrival_lines, listing_from}

pub behind_shorter : (b : Bytes) → 1 ≤ length b → length (after_first b) < length b
behind_shorter b some = omega (arith, length-drop (arrival_size b) b)

-- ---- the first arrival and those behind it

none_of_nothing : (k : ℕ) → arrivals k [] ≡ []
unfolding arrivals
none_of_nothing zero = refl
none_of_nothing (suc k) = refl

-- as many turns as there are bytes are enough
enough : (k m : ℕ) (b : Bytes) → length b ≤ k → length b ≤ m → arrivals k b ≡ arrivals m b
unfolding arrivals
enough zero m [] h l = sym (none_of_nothing m)
enough zero m (y ∷ b) h l = absurd (omega arith)
enough (suc k) m [] h l = sym (none_of_nothing m)
enough (suc k) zero (y ∷ b) h l = absurd (omega arith)
enough (suc k) (suc m) (y ∷ b) h l =
    let short : length (after_first (y ∷ b)) < length (y ∷ b) = behind_shorter (y ∷ b) (omega arith) in
    ap (λ (rest : List Arrival). first_arrival (y ∷ b) ∷ rest) (enough k m (after_first (y ∷ b)) (omega arith) (omega arith))

first_and_behind : (b : Bytes) → 1 ≤ length b → arrivals_in b ≡ first_arrival b ∷ arrivals_in (after_first b)
unfolding arrivals_in arrivals
first_and_behind [] some = absurd (omega arith)
first_and_behind (y ∷ b) some =
    let short : length (after_first (y ∷ b)) < length (y ∷ b) = behind_shorter (y ∷ b) some in
    ap (λ (rest : List Arrival). first_arrival (y ∷ b) ∷ rest) (enough (length b) (length (after_first (y ∷ b))) (after_first (y ∷ b)) (omega arith) (omega arith))

-- ---- whether the first is read

module _ (b : Bytes) where
  overlong_unread : overlong b ≡ true → first_arrival b ≡ unread
  unfolding first_arrival
  overlong_unread long = rw long

  cut_unread : length b < arrival_size b → first_arrival b ≡ unread
  unfolding first_arrival
  cut_unread short = by_test (overlong b) (λ long. rw long) (λ fits. rw (fits, lt-ltb (length b) (arrival_size b) short))

  whole_arrived : overlong b ≡ false → arrival_size b ≤ length b → first_arrival b ≡ arrived (first_block b) (first_verdict b)
  unfolding first_arrival
  whole_arrived fits whole = rw (fits, le-ltb (length b) (arrival_size b) whole)

-- ---- their lines

module _ (digest : Bytes → Bytes) where
  abbrev pub listing_in : ℕ → Site → Bytes → Bytes
  listing_in arrival x b = listing_from digest arrival x (arrivals_in b)

  pub nothing_listed : (arrival : ℕ) (x : Site) → listing_in arrival x [] ≡ []
  unfolding listing_from arrivals_in arrivals
  nothing_listed arrival x = refl

  module _ (arrival : ℕ) (x : Site) (b : Bytes) (some : 1 ≤ length b) where
    first_listed : (a : Arrival) → first_arrival b ≡ a → listing_in arrival x b ≡ listing_from digest arrival x (a ∷ arrivals_in (after_first b))
    first_listed a e = ap (listing_from digest arrival x) (first_and_behind b some ∙ ap (λ (f : Arrival). f ∷ arrivals_in (after_first b)) e)

    unread_listed : first_arrival b ≡ unread → listing_in arrival x b ≡ unread_line arrival ++ listing_in (suc arrival) x (after_first b)
    unfolding listing_from
    unread_listed e = first_listed unread e

    pub overlong_listed : overlong b ≡ true → listing_in arrival x b ≡ unread_line arrival ++ listing_in (suc arrival) x (after_first b)
    overlong_listed long = unread_listed (overlong_unread b long)

    -- nothing follows one that is cut
    pub cut_listed : length b < arrival_size b → listing_in arrival x b ≡ unread_line arrival
    cut_listed short =
        let none : after_first b ≡ [] = drop_of_length-le b {i = arrival_size b} (omega arith) in
        unread_listed (cut_unread b short)
        ∙ ap (λ (rest : Bytes). unread_line arrival ++ rest) (ap (listing_in (suc arrival) x) none ∙ nothing_listed (suc arrival) x)
        ∙ append-nil (unread_line arrival)

    pub whole_listed : overlong b ≡ false → arrival_size b ≤ length b
        → listing_in arrival x b
        ≡ arrival_lines digest x (first_block b) (first_verdict b) arrival ++ listing_in (suc arrival) (site_arrived digest x (first_block b) (first_verdict b)) (after_first b)
    unfolding listing_from
    whole_listed fits whole = first_listed (arrived (first_block b) (first_verdict b)) (whole_arrived b fits whole)
