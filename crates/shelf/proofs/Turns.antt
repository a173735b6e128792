-- The entries one after the other: what waits from an entry on is that entry and what waits behind it. Assumes nothing.
use mathlib.Core.Path.{◌≡◌, refl, sym, ap, ap₂, ◌∙◌}
use mathlib.Core.Bool.{Bool, true, false, cond, ◌&&◌, ◌||◌}
use mathlib.Core.List.{[], ◌∷◌}
use Prim.Native.Nat.{ℕ, zero, suc, ◌+◌, ◌-◌, ◌≤◌, ◌<◌}
use native.Mathlib.Numerals.{add-one}
use native.Mathlib.Omega.{arith}
use lib.Dec.{eqb, leb}
use lib.ListN.{length, get_or, take, drop, length-take, drop_of_length-le}
use lib.Seq.{drop-cons}
use borrow.Author.Tests.{leb-true}
use Rattle.std.specs.List.{list_any, list_all, count_by, range_with_len}
use Rattle.std.proofs.lemmas.List.Sums.{sum_by-cons}
use Rattle.base.specs.Bytes.{Bytes}
use Rattle.base.specs.List.{list_below, some_in, count_in}
use Rattle.base.proofs.List.{length_list, list_at}
use Rattle.block.specs.Limits.{max_block_size}
use Rattle.shelf.specs.Layout.{entry_header, entry_start, Waiting, waiting_count, campaign_at, length_at, block_at, waiting_at, waiting_in}
use Rattle.shelf.specs.Rules.{holds, is_same, waits, each_sound}
use Rattle.shelf.specs.Steps.{no_waiting, sound_at}
use Rattle.shelf.proofs.ShelfLayout.{AllFit}

pub length_waiting : (s : Bytes) → length (waiting_in s) ≡ waiting_count s
unfolding waiting_in
length_waiting s = length_list (waiting_at s) (waiting_count s)

pub waiting_end : (s : Bytes) (i : ℕ) → waiting_count s ≤ i → drop i (waiting_in s) ≡ []
waiting_end s i h = let l : length (waiting_in s) ≤ i = omega (arith, length_waiting s) in drop_of_length-le (waiting_in s) l

module _ (s : Bytes) (i : ℕ) (below : i < waiting_count s) where
  pub waiting_cons : drop i (waiting_in s) ≡ waiting_at s i ∷ drop (i + 1) (waiting_in s)
  unfolding waiting_in
  waiting_cons =
      drop-cons (waiting_in s) i (waiting_at s i) (omega (arith, length_waiting s))
      ∙ ap₂ (λ (w : Waiting) (n : ℕ). w ∷ drop n (waiting_in s)) (list_at (waiting_at s) (waiting_count s) i (waiting_at s i) below) (sym (add-one i))

  pub entry_shown : waiting_at s i ≡ get_or (waiting_in s) i no_waiting
  unfolding waiting_in
  entry_shown = sym (list_at (waiting_at s) (waiting_count s) i no_waiting below)

  pub holds_turn : (c : ℕ) → holds c (drop i (waiting_in s)) ≡ cond (eqb (campaign_at s i) c) 1 0 + holds c (drop (i + 1) (waiting_in s))
  unfolding holds count_in
  holds_turn c = ap (holds c) waiting_cons

  waits_turn : (c : ℕ) (b : Bytes) → waits c b (drop i (waiting_in s)) ≡ (is_same c b (waiting_at s i) || waits c b (drop (i + 1) (waiting_in s)))
  unfolding waits some_in
  waits_turn c b = ap (waits c b) waiting_cons

  pub sound_turn : each_sound (drop i (waiting_in s)) ≡ (sound_at s i && each_sound (drop (i + 1) (waiting_in s)))
  unfolding each_sound
  sound_turn = ap each_sound waiting_cons

-- the entries from index i on, n of them: whether one has these bytes for the campaign, how many are of the campaign, and whether each is sound
module _ (s : Bytes) where
  pub waits_over : (c : ℕ) (b : Bytes) (i n : ℕ) → waiting_count s - i ≡ n → list_any (λ j. is_same c b (waiting_at s j)) (range_with_len i n) ≡ waits c b (drop i (waiting_in s))
  unfolding waits some_in
  waits_over c b i zero e = sym (ap (waits c b) (waiting_end s i (omega arith)))
  waits_over c b i (suc n) e =
      ap (λ (t : Bool). is_same c b (waiting_at s i) || t) (waits_over c b (i + 1) n (omega arith)) ∙ sym (waits_turn s i (omega arith) c b)

  pub holds_over : (c : ℕ) (i n : ℕ) → waiting_count s - i ≡ n → count_by (λ j. eqb (campaign_at s j) c) (range_with_len i n) ≡ holds c (drop i (waiting_in s))
  unfolding holds count_in
  holds_over c i zero e = sym (ap (holds c) (waiting_end s i (omega arith)))
  holds_over c i (suc n) e =
      sum_by-cons (λ (j : ℕ). cond (eqb (campaign_at s j) c) 1 0) i (range_with_len (i + 1) n)
      ∙ ap (λ (k : ℕ). cond (eqb (campaign_at s i) c) 1 0 + k) (holds_over c (i + 1) n (omega arith)) ∙ sym (holds_turn s i (omega arith) c)

  pub sound_over : (i n : ℕ) → waiting_count s - i ≡ n → list_all (sound_at s) (range_with_len i n) ≡ each_sound (drop i (waiting_in s))
  unfolding each_sound
  sound_over i zero e = sym (ap each_sound (waiting_end s i (omega arith)))
  sound_over i (suc n) e = ap (λ (t : Bool). sound_at s i && t) (sound_over (i + 1) n (omega arith)) ∙ sym (sound_turn s i (omega arith))

-- what any bytes show fits
pub shown_short : (s : Bytes) (i : ℕ) → length (block_at s i) ≤ max_block_size
shown_short s i = go (leb (length_at s i) max_block_size) refl
  where
    go : (t : Bool) → leb (length_at s i) max_block_size ≡ t → length (cond t (take (length_at s i) (drop (entry_start i + entry_header) s)) []) ≤ max_block_size
    go true e = omega (arith, leb-true (length_at s i) max_block_size e, length-take (length_at s i) (drop (entry_start i + entry_header) s))
    go false e = omega arith

pub shown_fit : (s : Bytes) → AllFit (waiting_in s)
unfolding waiting_in list_below
shown_fit s = list_fit (waiting_at s) (waiting_count s) (shown_short s)
  where
    list_fit : (f : ℕ → Waiting) (k : ℕ) → ((i : ℕ) → length (f i).block ≤ max_block_size) → AllFit (list_below f k)
    list_fit f zero h = tt
    list_fit f (suc k) h = (h 0, list_fit (λ i. f (suc i)) k (λ i. h (suc i)))
