-- A site has forked where two different blocks of it have one sequence number, and has not where it has one block of each. Assumes nothing.
use mathlib.Core.Path.{◌≡◌}
use mathlib.Core.Bool.{Bool, true, false, not, ◌&&◌}
use mathlib.Core.Logic.{◌≢◌}
use mathlib.Core.List.{List, Memᴰ}
use Prim.Native.Nat.{ℕ}
use lib.Dec.{eqb}
use borrow.Author.Tests.{eq-eqb, eqb-true, not-true}
use Rattle.base.specs.Bytes.{Bytes, same_bytes}
use Rattle.base.specs.List.{some_in}
use Rattle.base.proofs.Tests.{by_test, true_not_false, not_true_false, and_left, and_right}
use Rattle.base.proofs.List.{some_found, some_at_lem}
use Rattle.base.proofs.Bytes.{same_equal, other_same, same_other}
use Rattle.block.specs.Layout.{site_of, sequence_of}
use Rattle.history.specs.Forks.{forked}

module _ (bs : List Bytes) (p : ℕ) where
  -- two blocks that show it
  pub record Fork : Type 0 where
    pub one : Bytes
    pub other : Bytes
    pub one_among : Memᴰ one bs
    pub other_among : Memᴰ other bs
    pub one_site : site_of one ≡ p
    pub other_site : site_of other ≡ p
    pub sequence : sequence_of one ≡ sequence_of other
    pub different : one ≢ other

  abbrev twice : Bytes → Bytes → Bool
  twice a b = eqb (site_of a) p && (eqb (site_of b) p && (eqb (sequence_of a) (sequence_of b) && not (same_bytes a b)))

  pub fork_forked : Fork → forked bs p ≡ true
  unfolding forked
  fork_forked w =
      let y : twice w.one w.other ≡ true =
      rw (eq-eqb _ p w.one_site, eq-eqb _ p w.other_site, eq-eqb _ _ w.sequence, other_same w.one w.other w.different) in
      some_at_lem (λ a. some_in (twice a) bs) bs w.one w.one_among (some_at_lem (twice w.one) bs w.other w.other_among y)

  pub forked_fork : forked bs p ≡ true → Fork
  unfolding forked
  forked_fork e =
      let u = some_found (λ a. some_in (twice a) bs) bs e in
      let w = some_found (twice u.0) bs u.2 in
      let second = and_right (eqb (site_of u.0) p) _ w.2 in
      let third = and_right (eqb (site_of w.0) p) _ second in
      record {
        one = u.0;
        other = w.0;
        one_among = u.1;
        other_among = w.1;
        one_site = eqb-true _ _ (and_left (eqb (site_of u.0) p) _ w.2);
        other_site = eqb-true _ _ (and_left (eqb (site_of w.0) p) _ second);
        sequence = eqb-true _ _ (and_left (eqb (sequence_of u.0) (sequence_of w.0)) _ third);
        different = same_other u.0 w.0 (not-true _ (and_right (eqb (sequence_of u.0) (sequence_of w.0)) _ third));
      }

  -- the site has one block of each sequence number
  abbrev pub Single : Type 0
  Single = (a b : Bytes) → Memᴰ a bs → Memᴰ b bs → site_of a ≡ p → site_of b ≡ p → sequence_of a ≡ sequence_of b → a ≡ b

  pub unforked_single : forked bs p ≡ false → Single
  unforked_single u a b ma mb sa sb q = by_test (same_bytes a b) (same_equal a b) (λ n. true_not_false
      (fork_forked (record { one = a; other = b; one_among = ma; other_among = mb; one_site = sa; other_site = sb; sequence = q; different = same_other a b n })) u)

  pub single_unforked : Single → forked bs p ≡ false
  single_unforked single = not_true_false (forked bs p) (λ y.
      let w = forked_fork y in
      w.different (single w.one w.other w.one_among w.other_among w.one_site w.other_site w.sequence))
