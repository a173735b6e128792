-- Gathering ends once no step is due: each step that is due leaves less to do, and one step more than there are bytes is enough. Assumes
-- nothing.
use mathlib.Core.Path.{◌≡◌, refl, sym, ap, ◌∙◌, subst}
use mathlib.Core.Bool.{Bool, true, false}
use Prim.Native.Nat.{ℕ, zero, suc, ◌+◌, ◌-◌, ◌≤◌, ◌<◌, min}
use native.Mathlib.Omega.{arith}
use lib.Dec.{ltb}
use lib.ListN.{length, drop, length-take, length-drop}
use borrow.Author.Tests.{ltb-true, ltb-false}
use Rattle.base.specs.Bytes.{Bytes}
use Rattle.base.proofs.Tests.{by_test}
use Rattle.run.specs.Run.{Site}
use Rattle.report.specs.Framing.{wanted}
use Rattle.report.specs.Gathering.{Gathering, no_steps, piece_at, due, one_more, gather_on, gathering}
use Rattle.report.specs.declared.ListingState.{ListingState}
use Rattle.report.proofs.DueStep.{is_due_lem}
use Rattle.report.proofs.ListingEnd.{short_ends, end_wants_nothing}

-- the bytes that are left, and one more unless the listing is at its end
abbrev pub work : ℕ → ListingState → ℕ → ℕ
work count s used = (count - used) + min 1 (wanted s)

pub length_piece : (s : ListingState) (used : ℕ) (unread : Bytes) → length (piece_at s used unread) ≡ min (wanted s) (length unread - used)
length_piece s used unread = length-take (wanted s) (drop used unread) ∙ ap (λ (n : ℕ). min (wanted s) n) (length-drop used unread)

module _ (digest : Bytes → Bytes) (unread : Bytes) (is_ended : Bool) (size : ℕ) where
  abbrev on : ℕ → Gathering → Gathering
  on = gather_on digest unread is_ended size

  abbrev is_due_at : Gathering → Bool
  is_due_at = due digest unread is_ended size

  abbrev next : Gathering → Gathering
  next = one_more digest unread is_ended size

  abbrev work_at : Gathering → ℕ
  work_at g = work (length unread) g.state g.used

  abbrev Within : Gathering → Type 0
  Within g = g.used ≤ length unread

  pub next_within : (g : Gathering) → g.used ≤ length unread → (one_more digest unread is_ended size g).used ≤ length unread
  next_within g w = omega (arith, length_piece g.state g.used unread)

  -- a step that is due leaves less to do
  pub less_work : (g : Gathering) → g.used ≤ length unread → due digest unread is_ended size g ≡ true
      → work (length unread) (one_more digest unread is_ended size g).state (one_more digest unread is_ended size g).used < work (length unread) g.state g.used
  less_work g w d =
      let wants : 0 < wanted g.state = (is_due_lem is_ended g.state (length unread - g.used) (size - length g.lines) d).wants in
      let l : length (piece_at g.state g.used unread) ≡ min (wanted g.state) (length unread - g.used) = length_piece g.state g.used unread in
      by_test (ltb g.used (length unread))
      (λ some. let more : g.used < length unread = ltb-true g.used (length unread) some in omega arith)
      (λ none.
      let all : length unread ≤ g.used = ltb-false g.used (length unread) none in
      let ended : wanted (next g).state ≡ 0 = end_wants_nothing (next g).state (short_ends digest g.state g.site (piece_at g.state g.used unread) (omega arith)) in
      omega arith)

  -- ---- a step that is due is made, and no other

  no_more : (g : Gathering) → on zero g ≡ g
  unfolding gather_on
  no_more g = refl

  pub none_due : (n : ℕ) (g : Gathering) → due digest unread is_ended size g ≡ false → gather_on digest unread is_ended size n g ≡ g
  unfolding gather_on
  none_due zero g d = refl
  none_due (suc n) g d = rw (d, gather_on)

  pub one_due : (n : ℕ) (g : Gathering) → due digest unread is_ended size g ≡ true
      → gather_on digest unread is_ended size (suc n) g ≡ gather_on digest unread is_ended size n (one_more digest unread is_ended size g)
  unfolding gather_on
  one_due n g d = rw (d, gather_on)

  -- ---- as many steps as there is work are enough

  pub enough : (n m : ℕ) (g : Gathering) → g.used ≤ length unread → work (length unread) g.state g.used ≤ n → work (length unread) g.state g.used ≤ m
      → gather_on digest unread is_ended size n g ≡ gather_on digest unread is_ended size m g
  enough zero m g w h k = by_test (is_due_at g) (λ d. absurd (omega (arith, less_work g w d))) (λ d. none_due zero g d ∙ sym (none_due m g d))
  enough (suc n) zero g w h k = by_test (is_due_at g) (λ d. absurd (omega (arith, less_work g w d))) (λ d. none_due (suc n) g d ∙ sym (none_due zero g d))
  enough (suc n) (suc m) g w h k = by_test (is_due_at g)
      (λ d.
      let less : work_at (next g) < work_at g = less_work g w d in
      one_due n g d ∙ enough n m (next g) (next_within g w) (omega arith) (omega arith) ∙ sym (one_due m g d))
      (λ d. none_due (suc n) g d ∙ sym (none_due (suc m) g d))

  settled : (n : ℕ) (g : Gathering) → Within g → work_at g ≤ n → is_due_at (on n g) ≡ false
  settled zero g w h = by_test (is_due_at g) (λ d. absurd (omega (arith, less_work g w d))) (λ d. ap is_due_at (none_due zero g d) ∙ d)
  settled (suc n) g w h = by_test (is_due_at g)
      (λ d. ap is_due_at (one_due n g d) ∙ settled n (next g) (next_within g w) (omega (arith, less_work g w d)))
      (λ d. ap is_due_at (none_due (suc n) g d) ∙ d)

  pub gathered_all : (s : ListingState) (x : Site) → due digest unread is_ended size (gathering digest unread is_ended size s x) ≡ false
  unfolding gathering
  gathered_all s x = settled (suc (length unread)) (no_steps s x) (omega arith) (omega arith)

  -- ---- what holds before the first step, and after a step that is due if it held before, holds of what was gathered

  pub kept_on : (P : Gathering → Type 0) → ((g : Gathering) → due digest unread is_ended size g ≡ true → P g → P (one_more digest unread is_ended size g))
      → (n : ℕ) (g : Gathering) → P g → P (gather_on digest unread is_ended size n g)
  kept_on P keep zero g p = subst P (sym (no_more g)) p
  kept_on P keep (suc n) g p = by_test (is_due_at g)
      (λ d. subst P (sym (one_due n g d)) (kept_on P keep n (next g) (keep g d p)))
      (λ d. subst P (sym (none_due (suc n) g d)) p)

  pub kept : (P : Gathering → Type 0) → ((g : Gathering) → due digest unread is_ended size g ≡ true → P g → P (one_more digest unread is_ended size g))
      → (s : ListingState) (x : Site) → P (no_steps s x) → P (gathering digest unread is_ended size s x)
  unfolding gathering
  kept P keep s x p = kept_on P keep (suc (length unread)) (no_steps s x) p

  -- ---- the first step

  pub nothing_due : (s : ListingState) (x : Site) → due digest unread is_ended size (no_steps s x) ≡ false → gathering digest unread is_ended size s x ≡ no_steps s x
  unfolding gathering
  nothing_due s x d = none_due (suc (length unread)) (no_steps s x) d

  pub some_due : (s : ListingState) (x : Site) → due digest unread is_ended size (no_steps s x) ≡ true
      → work (length unread) (gathering digest unread is_ended size s x).state (gathering digest unread is_ended size s x).used < work (length unread) s 0
  unfolding gathering
  some_due s x d =
      let first : Gathering = next (no_steps s x) in
      let rest : ((on (length unread) first).used ≤ length unread) × (work_at (on (length unread) first) ≤ work_at first) =
      kept_on (λ (g : Gathering). (g.used ≤ length unread) × (work_at g ≤ work_at first))
      (λ g e w. (next_within g w.0, omega (arith, less_work g w.0 e, w.1)))
      (length unread) first (next_within (no_steps s x) (omega arith), omega arith) in
      let e : work_at (on (suc (length unread)) (no_steps s x)) ≡ work_at (on (length unread) first) = ap work_at (one_due (length unread) (no_steps s x) d) in
      omega (arith, e, rest.1, less_work (no_steps s x) (omega arith) d)
