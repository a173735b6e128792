-- The test whether a site forked says that two of its blocks share a sequence number. Assumes nothing.
use mathlib.Core.Path.{◌≡◌}
use mathlib.Core.Bool.{Bool, true}
use mathlib.Core.Logic.{◌↔◌}
use Prim.Native.Nat.{ℕ}
use lib.Dec.{eqb}
use borrow.Author.Tests.{eqb-true, eq-eqb}
use Rattle.base.specs.Search.{any_below}
use Rattle.base.proofs.Tests.{and_left, and_right}
use Rattle.base.proofs.Search.{any_true, any_true_at}
use Rattle.table.specs.View.{View}
use Rattle.watch.specs.Forks.{of_site, of_sequence, sequence_repeated_at, forked_in}
use Rattle.watch.specs.Promises.{Shares}

module _ (v : View) (seen : ℕ → Bool) (p : ℕ) where
  shares : forked_in v seen p ≡ true → Shares v seen p
  unfolding forked_in
  shares e =
      let w = any_true_at (sequence_repeated_at v seen p) v.held e in
      let i : ℕ = w.0 in
      let own : of_site v seen p i ≡ true = and_left (of_site v seen p i) (any_below (of_sequence v seen p (v.row i).sequence) i) w.2 in
      let u = any_true_at (of_sequence v seen p (v.row i).sequence) i (and_right (of_site v seen p i) (any_below (of_sequence v seen p (v.row i).sequence) i) w.2) in
      let j : ℕ = u.0 in
      record {
        one = j;
        other = i;
        different = u.1;
        held = w.1;
        one_of = and_left (of_site v seen p j) (eqb (v.row j).sequence (v.row i).sequence) u.2;
        other_of = own;
        sequence = eqb-true (v.row j).sequence (v.row i).sequence (and_right (of_site v seen p j) (eqb (v.row j).sequence (v.row i).sequence) u.2);
      }

  is_forked_lem : Shares v seen p → forked_in v seen p ≡ true
  unfolding forked_in
  is_forked_lem s =
      any_true (sequence_repeated_at v seen p) v.held s.other s.held
      (rw (s.other_of, any_true (of_sequence v seen p (v.row s.other).sequence) s.other s.one s.different (rw (s.one_of, eq-eqb _ _ s.sequence))))

  pub forked_shares : (forked_in v seen p ≡ true) ↔ Shares v seen p
  forked_shares = (shares, is_forked_lem)
