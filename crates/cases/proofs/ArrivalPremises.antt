-- The premises of the promise of arrival, part by part, by tests that compute. Assumes nothing.
use mathlib.Core.Path.{◌≡◌, refl, subst}
use mathlib.Core.Logic.{inl, inr}
use mathlib.Core.Bool.{Bool, true, false, not, ◌&&◌, ◌||◌}
use mathlib.Core.List.Memᴰ
use mathlib.Core.List.{List, Memᴰ}
use Prim.Native.Nat.{ℕ, zero, suc, ◌+◌}
use native.Mathlib.Omega.{arith}
use lib.Dec.{eqb, ltb}
use lib.ListN.{length}
use borrow.Author.Tests.{eqb-true, eqb-false, eq-eqb, lt-ltb, not-true}
use Rattle.base.specs.Bytes.{Bytes, same_bytes}
use Rattle.base.specs.List.{some_in}
use Rattle.base.specs.Search.{all_below}
use Rattle.base.proofs.Tests.{by_test, true_not_false, and_left, and_right, or_cases}
use Rattle.base.proofs.List.{some_found, some_at_lem}
use Rattle.base.proofs.Search.{all_true_at}
use Rattle.base.proofs.Bytes.{same_equal, equal_same}
use Rattle.setup.specs.Setup.{Setup, owner_of}
use Rattle.block.specs.Layout.{site_of, sequence_of, references_of, request_for}
use Rattle.history.specs.History.{is_parent_of}
use Rattle.history.specs.Ancestry.{refers, through}
use Rattle.history.specs.Forks.{forked}
use Rattle.history.proofs.Histories.{parent_sequence}
use Rattle.arrival.specs.Full.{BlockBy, RefersTo, Parent, InChain, itself, earlier, Above, ReferredInChain, Full}
use Rattle.arrival.specs.Arrival.{FirstRequest, InSet, Rounds}
use Rattle.arrival.proofs.Chains.{above_held}

-- ---- held blocks, and the owner's first request

module _ (bs : List Bytes) where
  unfoldable pub holds : Bytes → Bool
  holds a = some_in (same_bytes a) bs

  pub is_held : (a : Bytes) → holds a ≡ true → Memᴰ a bs
  unfolding holds
  is_held a e = let w = some_found (same_bytes a) bs e in Memᴰ.cast (same_equal a w.0 w.2) w.1

  unfoldable pub held_by : ℕ → Bytes → Bool
  held_by p b = holds b && eqb (site_of b) p

  is_by : (p : ℕ) (b : Bytes) → held_by p b ≡ true → BlockBy bs p b
  unfolding held_by
  is_by p b e = record { held = is_held b (and_left _ (eqb (site_of b) p) e); by_site = eqb-true _ _ (and_right (holds b) _ e) }

  module _ (s : Setup) (slot v : ℕ) (A : Bytes) where
    abbrev owner : ℕ
    owner = owner_of s slot

    unfoldable pub earlier_request : Bytes → Bool
    earlier_request b = eqb (site_of b) owner && (ltb (sequence_of b) (sequence_of A) && not (eqb (request_for b slot) 0))

    unfoldable pub first_request : Bool
    first_request = held_by owner A && (eqb (request_for A slot) v && (not (eqb v 0) && not (some_in earlier_request bs)))

    pub is_first_lem : first_request ≡ true → FirstRequest s bs slot v A
    unfolding first_request earlier_request
    is_first_lem e =
        record {
          by_owner = is_by owner A (search and_left);
          requests = eqb-true _ _ (search (and_left, and_right) depth 12);
          not_zero = eqb-false v 0 (not-true (eqb v 0) (search (and_left, and_right) depth 12));
          none_before = λ b x l. by_test (eqb (request_for b slot) 0) (λ y. eqb-true _ _ y) (λ n. true_not_false
              (some_at_lem earlier_request bs b x.held (rw (eq-eqb (site_of b) owner x.by_site, lt-ltb (sequence_of b) (sequence_of A) l, n) refl))
              (not-true (some_in earlier_request bs) (search (and_left, and_right) depth 12)));
        }

-- ---- a test of each site of the set

module _ (s : Setup) (set : ℕ → Bool) where
  unfoldable pub each : (ℕ → Bool) → Bool
  each test = all_below (λ p. elim (set p) [ true ↦ test p | false ↦ true ]) s.sites

  pub at_each : (test : ℕ → Bool) → each test ≡ true → (p : ℕ) → InSet s set p → test p ≡ true
  unfolding each
  at_each test e p i = rw i.is_in at (all_true_at _ s.sites e p i.below)

-- a test that is made only where another passes
both_pass : (t x : Bool) → elim t [ true ↦ x | false ↦ false ] ≡ true → (t ≡ true) × (x ≡ true)
both_pass true x e = (refl, e)
both_pass false x e = true_not_false e refl

-- ---- references

module _ (digest : Bytes → Bytes) where
  unfoldable pub refers_to : Bytes → Bytes → Bool
  refers_to b a = some_in (same_bytes (digest a)) (references_of b)

  is_referred_lem : (b a : Bytes) → refers_to b a ≡ true → RefersTo digest b a
  unfolding refers_to
  is_referred_lem b a e = let w = some_found (same_bytes (digest a)) (references_of b) e in Memᴰ.cast (same_equal (digest a) w.0 w.2) w.1

  referred_is : (b a : Bytes) → RefersTo digest b a → refers_to b a ≡ true
  unfolding refers_to
  referred_is b a m = some_at_lem (same_bytes (digest a)) (references_of b) (digest a) m (equal_same (digest a) (digest a) refl)

module _ (digest : Bytes → Bytes) (bs : List Bytes) where
  -- one reference or two lead from b to a
  unfoldable pub near : Bytes → Bytes → Bool
  near b a = refers_to digest b a || some_in (λ c. refers_to digest b c && refers_to digest c a) bs

  is_above : (b a : Bytes) → Memᴰ a bs → near b a ≡ true → Above digest bs b a
  unfolding near
  is_above b a m e = elim (or_cases (refers_to digest b a) _ e) [
    | inl y ↦ refers m (is_referred_lem digest b a y)
    | inr y ↦
        let w = some_found _ bs y in
        through (refers m (is_referred_lem digest w.0 a (and_right (refers_to digest b w.0) _ w.2))) w.1
        (is_referred_lem digest b w.0 (and_left _ (refers_to digest w.0 a) w.2))
  ]

  -- ---- the blocks of the set

  module _ (s : Setup) (set : ℕ → Bool) (A : Bytes) (first second : ℕ → Bytes) (last : Bytes) where
    unfoldable pub in_rounds : Bool
    in_rounds =
        each s set (λ p. held_by bs p (first p))
        && (each s set (λ p. near (first p) A)
        && (each s set (λ p. held_by bs p (second p))
        && (each s set (λ p. each s set (λ q. near (second p) (first q)))
        && (holds bs last
        && each s set (λ p. near last (second p))))))

    pub rounds : Memᴰ A bs → in_rounds ≡ true → Rounds digest s bs A set last
    unfolding in_rounds
    rounds m e =
        let first_by : (p : ℕ) → InSet s set p → BlockBy bs p (first p) =
        λ p i. is_by bs p (first p) (at_each s set (λ p. held_by bs p (first p)) (search and_left) p i) in
        let second_by : (p : ℕ) → InSet s set p → BlockBy bs p (second p) =
        λ p i. is_by bs p (second p) (at_each s set (λ p. held_by bs p (second p)) (search (and_left, and_right) depth 12) p i) in
        record {
          first = first;
          first_by = first_by;
          first_above = λ p i. is_above (first p) A m (at_each s set (λ p. near (first p) A) (search (and_left, and_right) depth 12) p i);
          second = second;
          second_by = second_by;
          second_above = λ p q i j. is_above (second p) (first q) (first_by q j).held (at_each s set (λ q. near (second p) (first q))
              (at_each s set (λ p. each s set (λ q. near (second p) (first q))) (search (and_left, and_right) depth 12) p i) q j);
          last_by = record { held = is_held bs last (search (and_left, and_right) depth 12); by_site = refl };
          last_above = λ p i. is_above last (second p) (second_by p i).held
              (at_each s set (λ p. near last (second p)) (search (and_left, and_right) depth 12) p i);
        }

  -- ---- full sites

  -- one of the first k blocks of b's chain refers to a
  unfoldable pub chain_refers : ℕ → Bytes → Bytes → Bool
  chain_refers zero b a = false
  chain_refers (suc k) b a =
      refers_to digest b a || some_in (λ c. elim (is_parent_of b c && refers_to digest b c) [ true ↦ chain_refers k c a | false ↦ false ]) bs

  in_chain : (k : ℕ) (b a : Bytes) → chain_refers k b a ≡ true → ReferredInChain digest bs b a
  unfolding chain_refers
  in_chain zero b a e = true_not_false e refl
  in_chain (suc k) b a e = elim (or_cases (refers_to digest b a) _ e) [
    | inl y ↦ record { by = b; in_chain = itself; refers = is_referred_lem digest b a y }
    | inr y ↦
        let w = some_found _ bs y in
        let x = both_pass (is_parent_of b w.0 && refers_to digest b w.0) (chain_refers k w.0 a) w.2 in
        let r = in_chain k w.0 a x.1 in
        let parent : Parent digest bs b w.0 = record {
          held = w.1;
          referred = is_referred_lem digest b w.0 (and_right (is_parent_of b w.0) _ x.0);
          is_parent = and_left _ (refers_to digest b w.0) x.0;
        } in
        record { by = r.by; in_chain = earlier r.in_chain parent; refers = r.refers }
  ]

  -- the sites that are looked at
  module _ (among : ℕ → Bool) where
    -- b's site is not looked at, or a's site has forked, or b's chain refers to a
    unfoldable pub covers : Bytes → Bytes → Bool
    covers b a = not (among (site_of b)) || (forked bs (site_of a) || chain_refers (suc (length bs)) b a)

    -- a block refers to one that covers more than it
    unfoldable pub uncovered : Bool
    uncovered =
        some_in (λ b. some_in (λ c. elim (refers_to digest b c) [
          | true ↦ some_in (λ a. elim (covers c a) [ true ↦ not (covers b a) | false ↦ false ]) bs
          | false ↦ false
        ]) bs) bs

    unfoldable pub full_site : ℕ → Bool
    full_site p = among p && not (forked bs p)

    module _ (none : uncovered ≡ false) where
      passed_on : (b c a : Bytes) → Memᴰ b bs → Memᴰ c bs → Memᴰ a bs → refers_to digest b c ≡ true → covers c a ≡ true → covers b a ≡ true
      unfolding uncovered
      passed_on b c a mb mc ma r y = by_test (covers b a) (λ e. e) (λ n.
          true_not_false (some_at_lem _ bs b mb (some_at_lem _ bs c mc (rw r (some_at_lem _ bs a ma (rw (y, n) refl))))) none)

      above_covered : {a b : Bytes} → Above digest bs b a → Memᴰ b bs → covers b a ≡ true
      unfolding covers chain_refers
      above_covered (refers {a = a} {b = b} m r) mb =
          by_test (among (site_of b)) (λ y. by_test (forked bs (site_of a)) (λ f. rw (y, f)) (λ n. rw (y, n, referred_is digest b a r))) (λ n. rw n)
      above_covered (through {a = a} {c = c} {b = b} j m r) mb = passed_on b c a mb m (above_held digest bs j) (referred_is digest b c r) (above_covered j m)

      pub is_full : (p : ℕ) → full_site p ≡ true → Full digest bs p
      unfolding covers full_site
      is_full p e = record {
        unforked = not-true _ (and_right (among p) _ e);
        refers_to_all = λ b a x above n.
            let looked : among (site_of b) ≡ true = rw x.by_site (and_left _ (not (forked bs p)) e) in
            let c : (forked bs (site_of a) || chain_refers (suc (length bs)) b a) ≡ true = rw looked at (above_covered above x.held) in
            elim (or_cases (forked bs (site_of a)) _ c) [ inl y ↦ true_not_false y n | inr y ↦ in_chain (suc (length bs)) b a y ];
      }

  -- ---- a site that is not full

  -- a block of sequence number 0 is its whole chain
  alone : {a b : Bytes} → InChain digest bs a b → sequence_of b ≡ 0 → a ≡ b
  alone itself z = refl
  alone (earlier {c = c} {b = b} k p) z = let next : sequence_of c + 1 ≡ sequence_of b = parent_sequence b c p.is_parent in absurd (omega arith)

  -- b, of sequence number 0, is above a and does not refer to it, and a's site has not forked
  unfoldable pub misses : Bytes → Bytes → Bool
  misses b a =
      holds bs b && (eqb (sequence_of b) 0 && (holds bs a && (near b a && (not (refers_to digest b a) && not (forked bs (site_of a))))))

  pub not_full : (b a : Bytes) → misses b a ≡ true → Full digest bs (site_of b) → ⊥
  unfolding misses
  not_full b a e full =
      let single : sequence_of b ≡ 0 = eqb-true _ _ (search (and_left, and_right) depth 12) in
      let above : Above digest bs b a =
      is_above b a (is_held bs a (search (and_left, and_right) depth 12)) (search (and_left, and_right) depth 12) in
      let r = full.refers_to_all b a (record { held = is_held bs b (search and_left); by_site = refl }) above
      (not-true (forked bs (site_of a)) (search (and_left, and_right) depth 12)) in
      true_not_false (referred_is digest b a (subst (λ (c : Bytes). RefersTo digest c a) (alone r.in_chain single) r.refers))
      (not-true (refers_to digest b a) (search (and_left, and_right) depth 12))
