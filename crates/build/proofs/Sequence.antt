-- The sequence number of a site's next block. It is above that of every held block of the site; where it is not 0, a held block of the site is
-- the greatest, and only one is where the site did not fork. Assumes nothing.
use mathlib.Core.Path.{◌≡◌, sym}
use mathlib.Core.Bool.{Bool, true, false, cond, ◌&&◌}
use mathlib.Core.Logic.{◌≢◌}
use Prim.Native.Nat.{ℕ, ◌+◌, ◌<◌}
use native.Mathlib.Omega.{arith}
use lib.Dec.{eqb}
use borrow.Author.Tests.{eqb-true, eq-eqb}
use Rattle.base.proofs.Tests.{and_left, and_right}
use Rattle.table.specs.View.{View}
use Rattle.watch.specs.Forks.{of_site}
use Rattle.watch.specs.Promises.{Shares}
use Rattle.build.specs.Building.{sequence_after, next_sequence, is_greatest}
use Rattle.build.proofs.Greatest.{greatest_bounds, greatest_reached}

-- ---- the greatest block of the site

module _ (seen : ℕ → Bool) (v : View) (p : ℕ) where
  pub greatest_own : (i : ℕ) → is_greatest seen v p i ≡ true → of_site v seen p i ≡ true
  greatest_own i y = and_left (of_site v seen p i) (eqb ((v.row i).sequence + 1) (next_sequence seen v p)) y

  pub greatest_site : (i : ℕ) → is_greatest seen v p i ≡ true → (v.row i).site ≡ p
  greatest_site i y = eqb-true _ _ (and_right (seen i) (eqb (v.row i).site p) (greatest_own i y))

  pub greatest_before : (i : ℕ) → is_greatest seen v p i ≡ true → (v.row i).sequence + 1 ≡ next_sequence seen v p
  greatest_before i y = eqb-true _ _ (and_right (of_site v seen p i) (eqb ((v.row i).sequence + 1) (next_sequence seen v p)) y)

  -- every held block of the site has a lower one
  pub next_above : (i : ℕ) → i < v.held → of_site v seen p i ≡ true → (v.row i).sequence < next_sequence seen v p
  unfolding next_sequence
  next_above i h y =
      let own : sequence_after seen v p i ≡ (v.row i).sequence + 1 = rw y in
      omega (arith, own, greatest_bounds (sequence_after seen v p) v.held i h)

  pub some_greatest : next_sequence seen v p ≢ 0 → (i : ℕ) × (i < v.held) × (is_greatest seen v p i ≡ true)
  unfolding next_sequence
  some_greatest n =
      let w = greatest_reached (sequence_after seen v p) v.held n in
      (w.0, w.1, go (of_site v seen p w.0) ((v.row w.0).sequence + 1) w.2)
    where
      go : (t : Bool) (x : ℕ) → cond t x 0 ≡ next_sequence seen v p → (t && eqb x (next_sequence seen v p)) ≡ true
      go true x e = eq-eqb _ _ e
      go false x e = absurd (n (sym e))

  -- two greatest blocks would share a sequence number
  pub greatest_only : (Shares v seen p → ⊥) → (i j : ℕ) → i < v.held → j < v.held → is_greatest seen v p i ≡ true → is_greatest seen v p j ≡ true → i ≡ j
  greatest_only unforked i j h l y z =
      let not_below : i < j → ⊥ = λ m. unforked (share i j m l y z) in
      let not_above : j < i → ⊥ = λ m. unforked (share j i m h z y) in
      omega arith
    where
      share : (i j : ℕ) → i < j → j < v.held → is_greatest seen v p i ≡ true → is_greatest seen v p j ≡ true → Shares v seen p
      share i j m l y z =
          record {
            one = i;
            other = j;
            different = m;
            held = l;
            one_of = greatest_own i y;
            other_of = greatest_own j z;
            sequence = omega (arith, greatest_before i y, greatest_before j z);
          }
