-- Each refusal of the watch comes under its cause and under no other, and what is answered beside a refusal and without one. Assumes nothing.
use mathlib.Core.Path.{◌≡◌, refl, sym, ap, ◌∙◌}
use mathlib.Core.Bool.{true, false}
use mathlib.Core.Logic.Iff
use mathlib.Core.Logic.{◌↔◌, ◌≢◌}
use Prim.Native.Nat.{ℕ, ◌≤◌, ◌<◌}
use native.Mathlib.Omega.{arith}
use lib.Count.{ones}
use lib.Dec.{eqb}
use borrow.Author.Tests.{eqb-true, ne_eqb, ltb-true, lt-ltb, ltb-false, le-ltb}
use Rattle.base.specs.Bytes.{Bytes}
use Rattle.base.proofs.Tests.{by_test, not_true_false}
use Rattle.answer.specs.Promises.{elsewhere, different, Decided}
use Rattle.answer.proofs.Promises.{first_refused, second_refused, decided}
use Rattle.table.specs.Layout.{setup_of, count_of, view_of}
use Rattle.table.specs.Form.{in_form}
use Rattle.watch.specs.declared.ForkedSites.{ForkedSites}
use Rattle.watch.specs.declared.AncestorPlaces.{AncestorPlaces}
use Rattle.watch.specs.Forks.{forked_mask, reported, forks}
use Rattle.watch.specs.Ancestors.{ancestor_mask, ancestor_checks, ancestor_answer, ancestors}

module _ (t : Bytes) where
  -- ---- forks

  pub forks_reported : in_form t ≡ true → forks t ≡ reported (setup_of t) (forked_mask (setup_of t) (view_of t))
  unfolding forks
  forks_reported y = rw y

  pub forks_refused : in_form t ≡ false → forks t ≡ record { refusal = 2; sites = 0; count = 0; at_most_f = false }
  unfolding forks
  forks_refused n = rw n

  pub forks_two : ((forks t).refusal ≡ 2) ↔ (in_form t ≡ false)
  forks_two = (
    λ e. not_true_false (in_form t) (λ y. absurd (omega (arith, e, ap (λ (r : ForkedSites). r.refusal) (forks_reported y)))),
    λ n. ap (λ (r : ForkedSites). r.refusal) (forks_refused n),
  )

  pub forks_none : ((forks t).refusal ≡ 0) ↔ (in_form t ≡ true)
  forks_none = (
    λ e. by_test (in_form t) (λ y. y) (λ n. absurd (omega (arith, e, ap (λ (r : ForkedSites). r.refusal) (forks_refused n)))),
    λ y. ap (λ (r : ForkedSites). r.refusal) (forks_reported y),
  )

  pub no_sites : (forks t).refusal ≢ 0 → ((forks t).sites ≡ 0) × ((forks t).count ≡ 0)
  no_sites n =
      let e = forks_refused (not_true_false (in_form t) (λ y. n (forks_none.1 y))) in
      (ap (λ (r : ForkedSites). r.sites) e, ap (λ (r : ForkedSites). r.count) e)

  -- ---- ancestors

  module _ (i : ℕ) where
    pub ancestors_found : eqb (ancestor_answer t i).refusal 0 ≡ true
        → ancestors t i ≡ record { refusal = 0; places = ancestor_mask (view_of t) i; count = ones (ancestor_mask (view_of t) i) }
    unfolding ancestors
    ancestors_found y = rw y

    pub ancestors_refused : eqb (ancestor_answer t i).refusal 0 ≡ false → ancestors t i ≡ record { refusal = (ancestor_answer t i).refusal; places = 0; count = 0 }
    unfolding ancestors
    ancestors_refused n = rw n

    -- the number is that of the checks
    ancestors_number : (ancestors t i).refusal ≡ (ancestor_answer t i).refusal
    ancestors_number = by_test (eqb (ancestor_answer t i).refusal 0)
        (λ y. ap (λ (r : AncestorPlaces). r.refusal) (ancestors_found y) ∙ sym (eqb-true _ 0 y))
        (λ n. ap (λ (r : AncestorPlaces). r.refusal) (ancestors_refused n))

    same_number : (n : ℕ) → ((ancestors t i).refusal ≡ n) ↔ ((ancestor_answer t i).refusal ≡ n)
    same_number n = (λ e. sym ancestors_number ∙ e, λ e. ancestors_number ∙ e)

    told : Decided (ancestor_answer t i) (ancestor_checks (in_form t) (view_of t) i) 0
    unfolding different elsewhere
    told = decided _ 0 refl

    pub ancestors_two : ((ancestors t i).refusal ≡ 2) ↔ (in_form t ≡ false)
    ancestors_two = Iff.trans (same_number 2) (first_refused told)

    pub ancestors_thirteen : ((ancestors t i).refusal ≡ 13) ↔ ((in_form t ≡ true) × (count_of t ≤ i))
    ancestors_thirteen = Iff.trans (same_number 13) (Iff.trans (second_refused told) (Iff.and Iff.rfl (ltb-false _ _, le-ltb _ _)))

    pub answer_none : ((ancestor_answer t i).refusal ≡ 0) ↔ ((in_form t ≡ true) × (i < count_of t))
    answer_none = Iff.trans told.none (Iff.and (λ p. p.1, λ e. (tt, e)) (ltb-true _ _, lt-ltb _ _))

    pub ancestors_none : ((ancestors t i).refusal ≡ 0) ↔ ((in_form t ≡ true) × (i < count_of t))
    ancestors_none = Iff.trans (same_number 0) answer_none

    pub no_places : (ancestors t i).refusal ≢ 0 → ((ancestors t i).places ≡ 0) × ((ancestors t i).count ≡ 0)
    no_places n =
        let e = ancestors_refused (ne_eqb (ancestor_answer t i).refusal 0 (λ z. n ((same_number 0).1 z))) in
        (ap (λ (r : AncestorPlaces). r.places) e, ap (λ (r : AncestorPlaces). r.count) e)
