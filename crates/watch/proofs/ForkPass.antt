-- The turns of the pass that finds the forked sites: a block whose print no earlier block of its site has repeats no sequence number, and one place
-- more adds at most its own site to the mask. Assumes nothing.
use mathlib.Core.Path.{◌≡◌, sym, ap, ◌∙◌}
use mathlib.Core.Bool.{true, false, and-false}
use Prim.Native.Nat.{ℕ, ◌+◌, ◌*◌, ◌%◌, ◌^◌, ◌≤◌, ◌<◌}
use native.Mathlib.Nat.{mod-lt}
use lib.Bits.{bit_or}
use lib.Dec.{eqb, lit<}
use borrow.Author.Tests.{ne_eqb, eqb-true, eqb-false}
use Rattle.base.specs.Search.{any_below}
use Rattle.base.specs.Mask.{mask_below, in_mask}
use Rattle.base.specs.Steps.{print_count}
use Rattle.base.specs.Bytes.{Bytes}
use Rattle.base.proofs.Tests.{by_test, not_true_false, and_left, and_right}
use Rattle.base.proofs.Search.{any_false}
use Rattle.base.proofs.Sets.{some_put, some_skip}
use Rattle.base.proofs.Prints.{new_print}
use Rattle.table.specs.Layout.{site_at, sequence_at, view_of}
use Rattle.watch.specs.Forks.{everywhere, of_site, of_sequence, sequence_repeated_at}
use Rattle.watch.specs.Steps.{sequence_print, sequence_prints_met}

module _ (t : Bytes) (i : ℕ) where
  pub print_lt : sequence_print t i < print_count
  print_lt = mod-lt (sequence_at t i) (lit< tt)

  pub new_sequence : in_mask (sequence_prints_met t i) (sequence_print t i) ≡ false → sequence_repeated_at (view_of t) everywhere (site_at t i) i ≡ false
  new_sequence n = rw none (and-false (of_site (view_of t) everywhere (site_at t i) i))
    where
      another : (j : ℕ) → j < i → of_sequence (view_of t) everywhere (site_at t i) (sequence_at t i) j ≡ true → ⊥
      another j h y = new_print (site_at t) (sequence_print t) i print_lt n j h
          (eqb-true (site_at t j) (site_at t i) (and_right (everywhere j) _ (and_left (of_site (view_of t) everywhere (site_at t i) j) _ y)))
          (ap (λ (x : ℕ). x % print_count) (eqb-true (sequence_at t j) (sequence_at t i) (and_right (of_site (view_of t) everywhere (site_at t i) j) _ y)))

      none : any_below (of_sequence (view_of t) everywhere (site_at t i) (sequence_at t i)) i ≡ false
      none = any_false _ i (λ j h. not_true_false _ (another j h))

-- the sites below n that the first i places show to be forked
abbrev pub forked_below : Bytes → ℕ → ℕ → ℕ
forked_below t n i = mask_below (λ p. any_below (sequence_repeated_at (view_of t) everywhere p) i) n

module _ (t : Bytes) (n i : ℕ) where
  -- at place i, a block of another site repeats nothing of this one
  other_site_lem : (p : ℕ) → (site_at t i ≡ p → ⊥) → sequence_repeated_at (view_of t) everywhere p i ≡ false
  other_site_lem p d = rw (ne_eqb (site_at t i) p d, and-false (everywhere i))

  -- one place more: its site is put in, or no site is
  pub forked_put : n ≤ 16 → (site : ℕ) → site ≡ site_at t i → site < n → sequence_repeated_at (view_of t) everywhere (site_at t i) i ≡ true
      → bit_or (forked_below t n i) (1 * 2 ^ site % 2 ^ 16) ≡ forked_below t n (i + 1)
  forked_put few site e l y = some_put (sequence_repeated_at (view_of t) everywhere) 16 n i site few l (λ p m. by_test (eqb site p)
      (λ z. let q = sym (eqb-true site p z) ∙ e in z ∙ sym (ap (λ (x : ℕ). sequence_repeated_at (view_of t) everywhere x i) q ∙ y))
      (λ z. z ∙ sym (other_site_lem p (λ q. eqb-false site p z (e ∙ q)))))

  pub forked_skip : sequence_repeated_at (view_of t) everywhere (site_at t i) i ≡ false → forked_below t n i ≡ forked_below t n (i + 1)
  forked_skip z = some_skip (sequence_repeated_at (view_of t) everywhere) n i (λ p m. by_test (eqb (site_at t i) p)
      (λ y. ap (λ (x : ℕ). sequence_repeated_at (view_of t) everywhere x i) (sym (eqb-true (site_at t i) p y)) ∙ z)
      (λ d. other_site_lem p (eqb-false (site_at t i) p d)))
