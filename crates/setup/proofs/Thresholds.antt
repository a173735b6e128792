-- All that proofs use of a setup's numbers. A change of the site counts or of the thresholds is answered here, and nowhere else.
-- Assumes nothing.
use mathlib.Core.Path.{◌≡◌, refl}
use mathlib.Core.Bool.{Bool, true}
use mathlib.Core.Logic.{inl, inr}
use Prim.Native.Nat.{ℕ, ◌+◌, ◌-◌, ◌*◌, ◌≤◌, ◌<◌}
use native.Mathlib.Omega.{arith}
use lib.Dec.{eqb, leb, ltb}
use lib.ListN.{length}
use borrow.Author.Tests.{eqb-true, leb-true, ltb-true}
use Rattle.base.proofs.Tests.{and_left, and_right, or_cases}
use Rattle.base.proofs.Search.{all_true_at}
use Rattle.setup.specs.Setup.{max_sites, Setup, owner_of, lawful_sites, owners_below, lawful, faults, echo_quorum, ready_amplification, ready_quorum, slot_count}

-- a test that passes at each lawful count of sites
at_each : (test : ℕ → Bool) → (test 1 ≡ true) → (test 4 ≡ true) → (test 7 ≡ true) → (test 10 ≡ true) → (test 13 ≡ true) → (test 16 ≡ true)
    → (n : ℕ) → lawful_sites n ≡ true → test n ≡ true
unfolding lawful_sites
at_each test one four seven ten thirteen sixteen n e = elim (or_cases (eqb n 1) _ e) [
  | inl h ↦ rw (eqb-true n 1 h) one
  | inr e ↦ elim (or_cases (eqb n 4) _ e) [
    | inl h ↦ rw (eqb-true n 4 h) four
    | inr e ↦ elim (or_cases (eqb n 7) _ e) [
      | inl h ↦ rw (eqb-true n 7 h) seven
      | inr e ↦ elim (or_cases (eqb n 10) _ e) [
        | inl h ↦ rw (eqb-true n 10 h) ten
        | inr e ↦ elim (or_cases (eqb n 13) _ e) [ inl h ↦ rw (eqb-true n 13 h) thirteen | inr e ↦ rw (eqb-true n 16 e) sixteen ]
      ]
    ]
  ]
]

-- two ECHO quorums have more than f sites in common
pub echo_quorums_meet : (n : ℕ) → lawful_sites n ≡ true → n + faults n < 2 * echo_quorum n
unfolding faults echo_quorum
echo_quorums_meet n e = ltb-true _ _ (at_each (λ n. ltb (n + faults n) (2 * echo_quorum n)) refl refl refl refl refl refl n e)

sites_some : (n : ℕ) → lawful_sites n ≡ true → 0 < n
sites_some n e = ltb-true _ _ (at_each (λ n. ltb 0 n) refl refl refl refl refl refl n e)

-- f is less than a third of the sites, so the n - f others are enough for either quorum
faults_few : (n : ℕ) → lawful_sites n ≡ true → 3 * faults n < n
unfolding faults
faults_few n e = omega (arith, sites_some n e)

pub echo_quorum_reached : (n : ℕ) → lawful_sites n ≡ true → echo_quorum n ≤ n - faults n
unfolding echo_quorum
echo_quorum_reached n e = omega (arith, faults_few n e)

pub ready_quorum_reached : (n : ℕ) → lawful_sites n ≡ true → ready_quorum n ≤ n - faults n
unfolding ready_quorum
ready_quorum_reached n e = omega (arith, faults_few n e)

pub sites_few : (n : ℕ) → lawful_sites n ≡ true → n ≤ max_sites
sites_few n e = leb-true _ _ (at_each (λ n. leb n max_sites) refl refl refl refl refl refl n e)

-- an ECHO or a READY that counts has a sender
pub echo_quorum_some : (n : ℕ) → 1 ≤ echo_quorum n
unfolding echo_quorum
echo_quorum_some n = omega arith

pub amplification_some : (n : ℕ) → 1 ≤ ready_amplification n
unfolding ready_amplification
amplification_some n = omega arith

pub quorum_some : (n : ℕ) → 1 ≤ ready_quorum n
unfolding ready_quorum
quorum_some n = omega arith

-- what a lawful setup has
module _ (s : Setup) (e : lawful s ≡ true) where
  pub sites_lawful : lawful_sites s.sites ≡ true
  unfolding lawful
  sites_lawful = search and_left

  pub eight_owners : length s.owners ≡ slot_count
  unfolding lawful
  eight_owners = eqb-true _ _ (search (and_left, and_right))

  pub owner_below : (slot : ℕ) → slot < slot_count → owner_of s slot < s.sites
  unfolding lawful owners_below
  owner_below slot h = ltb-true _ _ (all_true_at (λ i. ltb (owner_of s i) s.sites) (length s.owners) (search (and_left, and_right)) slot (omega (arith, eight_owners)))
