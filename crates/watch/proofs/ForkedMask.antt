-- The mask that `forks` answers: its bits are the sites that forked, its count is theirs, and whether that is at most f. Assumes nothing.
use mathlib.Core.Path.{◌≡◌, refl, sym, ◌∙◌}
use mathlib.Core.Bool.{Bool, true}
use mathlib.Core.Logic.{◌↔◌}
use Prim.Native.Nat.{ℕ, ◌≤◌, ◌<◌}
use native.Mathlib.Decide.{dec_lt}
use native.Mathlib.Omega.{arith}
use lib.Count.{ones, ones_in}
use lib.Dec.{eqb}
use lib.Pow.{pow_pos}
use borrow.Author.Tests.{eqb-true, le-leb, leb-true}
use Rattle.base.specs.Count.{count_below}
use Rattle.base.specs.Mask.{mask_below, in_mask}
use Rattle.base.specs.Bytes.{Bytes}
use Rattle.base.proofs.Tests.{by_test, true_not_false, and_right}
use Rattle.base.proofs.Mask.{mask_below_lem}
use Rattle.base.proofs.Sets.{mask_has, mask_has_not, ones_members}
use Rattle.setup.specs.Setup.{faults}
use Rattle.table.specs.Layout.{setup_of, site_at, view_of}
use Rattle.table.specs.Form.{in_form}
use Rattle.table.proofs.InForm.{formed_row}
use Rattle.watch.specs.Forks.{everywhere, forked_in, forks}
use Rattle.watch.specs.Promises.{Shares}
use Rattle.watch.proofs.ForkTest.{forked_shares}
use Rattle.watch.proofs.Causes.{forks_reported, forks_refused}

module _ (t : Bytes) where
  abbrev is_forked : ℕ → Bool
  is_forked = forked_in (view_of t) everywhere

  abbrev n : ℕ
  n = (setup_of t).sites

  -- a site with a held block is a site of the setup
  shares_site : (p : ℕ) → in_form t ≡ true → Shares (view_of t) everywhere p → p < n
  shares_site p y s =
      let e : site_at t s.other ≡ p = eqb-true _ p (and_right (everywhere s.other) (eqb (site_at t s.other) p) s.other_of) in
      rw e at (formed_row t y s.other s.held).site

  pub forked_bit : in_form t ≡ true → (p : ℕ) → (in_mask (forks t).sites p ≡ true) ↔ Shares (view_of t) everywhere p
  forked_bit y p = rw (forks_reported t y) (
    λ e. elim (dec_lt p n) [
      | yes h ↦ (forked_shares (view_of t) everywhere p).0 (sym (mask_has is_forked n p h) ∙ e)
      | no h ↦ true_not_false e (mask_has_not is_forked n p (omega arith))
    ],
    λ s. mask_has is_forked n p (shares_site p y s) ∙ (forked_shares (view_of t) everywhere p).1 s,
  )

  pub forked_count : (forks t).count ≡ count_below (in_mask (forks t).sites) (setup_of t).sites
  unfolding ones ones_in
  forked_count = by_test (in_form t)
      (λ y. rw (forks_reported t y) (ones_members n (mask_below is_forked n) (mask_below_lem is_forked n)))
      (λ e. rw (forks_refused t e) (ones_members n 0 (pow_pos n)))

  pub forked_at_most_f : ((forks t).at_most_f ≡ true) ↔ ((in_form t ≡ true) × ((forks t).count ≤ faults (setup_of t).sites))
  forked_at_most_f = by_test (in_form t)
      (λ y. rw (forks_reported t y) (λ e. (y, leb-true _ _ e), λ p. le-leb _ _ p.1))
      (λ e. rw (forks_refused t e) (λ y. true_not_false y refl, λ p. true_not_false p.0 e))
