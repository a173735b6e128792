-- When a step is due: each of the three tests, and what holds where all pass. Assumes nothing.
use mathlib.Core.Path.{◌≡◌}
use mathlib.Core.Bool.{Bool, true, false, ◌&&◌, ◌||◌}
use mathlib.Core.Logic.{◌⊎◌, inl, inr, ⊎_elim}
use Prim.Native.Nat.{ℕ, ◌≤◌, ◌<◌}
use native.Mathlib.Omega.{arith}
use lib.Dec.{leb, ltb}
use borrow.Author.Tests.{ltb-true, ltb-false, leb-true, leb-false, lt-ltb, le-ltb, le-leb, lt-leb}
use Rattle.base.proofs.Tests.{by_test, and_left, and_right, or_cases, or_left, or_right, or_true}
use Rattle.report.specs.Framing.{wanted, lines_size}
use Rattle.report.specs.Gathering.{is_due}
use Rattle.report.specs.declared.ListingState.{ListingState}

module _ (is_ended : Bool) (s : ListingState) (left room : ℕ) where
  -- ---- each way to the answer

  pub nothing_wanted : wanted s ≡ 0 → is_due is_ended s left room ≡ false
  unfolding is_due
  nothing_wanted none = rw (le-ltb 0 (wanted s) (omega arith))

  pub bytes_there : 0 < wanted s → wanted s ≤ left → is_due is_ended s left room ≡ leb lines_size room
  unfolding is_due
  bytes_there some there = rw (lt-ltb 0 (wanted s) some, le-leb (wanted s) left there)

  pub bytes_missing : is_ended ≡ false → left < wanted s → is_due is_ended s left room ≡ false
  unfolding is_due
  bytes_missing more short = rw (lt-ltb 0 (wanted s) (omega arith), lt-leb (wanted s) left short, more)

  pub none_to_come : is_ended ≡ true → 0 < wanted s → is_due is_ended s left room ≡ leb lines_size room
  unfolding is_due
  none_to_come ended some = rw (lt-ltb 0 (wanted s) some, ended, or_true (leb (wanted s) left))

  -- ---- what a step that is due has

  pub record Due : Type 0 where
    pub wants : 0 < wanted s
    pub there : (wanted s ≤ left) ⊎ (is_ended ≡ true)
    pub fits : lines_size ≤ room

  pub is_due_lem : is_due is_ended s left room ≡ true → Due
  unfolding is_due
  is_due_lem e =
      let bytes : Bool = leb (wanted s) left || is_ended in
      let both : (bytes && leb lines_size room) ≡ true = and_right (ltb 0 (wanted s)) (bytes && leb lines_size room) e in
      record {
        wants = ltb-true 0 (wanted s) (and_left (ltb 0 (wanted s)) (bytes && leb lines_size room) e);
        there = ⊎_elim (λ t. inl (leb-true (wanted s) left t)) (λ t. inr t) (or_cases (leb (wanted s) left) is_ended (and_left bytes (leb lines_size room) both));
        fits = leb-true lines_size room (and_right bytes (leb lines_size room) both);
      }

  -- ---- what one that is not due lacks

  pub is_not_due : is_due is_ended s left room ≡ false → (wanted s ≡ 0) ⊎ (((left < wanted s) × (is_ended ≡ false)) ⊎ (room < lines_size))
  unfolding is_due
  is_not_due e = by_test (ltb 0 (wanted s))
      (λ some. by_test (leb (wanted s) left || is_ended)
      (λ there. inr (inr (leb-false lines_size room (last some there))))
      (λ short. inr (inl (leb-false (wanted s) left (or_left (leb (wanted s) left) is_ended short), or_right (leb (wanted s) left) is_ended short))))
      (λ none. inl (let z : wanted s ≤ 0 = ltb-false 0 (wanted s) none in omega arith))
    where
      last : ltb 0 (wanted s) ≡ true → (leb (wanted s) left || is_ended) ≡ true → leb lines_size room ≡ false
      last some there = rw (some, there) at e
