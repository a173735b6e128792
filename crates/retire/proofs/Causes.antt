-- Each refusal of a retiring comes under its cause and under no other, and there is none where place 0 may be retired. Assumes nothing.
use mathlib.Core.Path.{◌≡◌, refl}
use mathlib.Core.Bool.{true, false, ◌&&◌}
use mathlib.Core.Logic.Iff
use mathlib.Core.Logic.{◌↔◌}
use mathlib.Core.List.{List, []}
use Prim.Native.Nat.{ℕ, ◌<◌}
use native.Mathlib.Omega.{arith}
use lib.Dec.{eqb, ltb}
use lib.ListN.{length, drop}
use borrow.Author.Tests.{eqb-true, eq-eqb, lt-ltb, ltb-true}
use Rattle.base.specs.Search.{any_below}
use Rattle.base.specs.List.{some_in}
use Rattle.base.specs.Bytes.{Bytes}
use Rattle.base.proofs.Tests.{by_test, and_left, and_right}
use Rattle.base.proofs.Search.{any_true, any_true_at, any_false}
use Rattle.answer.specs.Checks.{Check}
use Rattle.answer.specs.Promises.{elsewhere, different, Decided}
use Rattle.answer.proofs.Checks.{valued_only, no_value, missed}
use Rattle.answer.proofs.Promises.{decided}
use Rattle.table.specs.Layout.{count_of, site_at, sequence_at, mark_at, row_at, view_of}
use Rattle.table.specs.Form.{in_form}
use Rattle.interpret.specs.Promises.{RecordsSized}
use Rattle.interpret.proofs.FirstChecks.{held, two, twelve, thirteen}
use Rattle.retire.specs.Retiring.{waits_for_first, follows_first, first_interpreted, referrers_interpreted, site_goes_on, retirable, retiring_checks, retiring}
use Rattle.retire.specs.Promises.{Follows, Retirable, Causes}
use Rattle.retire.proofs.Effect.{first_marked, waits_none}

-- ---- what check 29 says

module _ (t : Bytes) where
  follows_is : (i : ℕ) → i < count_of t → follows_first (view_of t) i ≡ true → Follows t i
  follows_is i h y =
      let later : (eqb (mark_at t i) 1 && ltb (sequence_at t 0) (sequence_at t i)) ≡ true = and_right (eqb (site_at t i) (site_at t 0)) _ y in
      record {
        below = h;
        site = eqb-true _ _ (and_left (eqb (site_at t i) (site_at t 0)) _ y);
        marked = eqb-true _ 1 (and_left (eqb (mark_at t i) 1) _ later);
        greater = ltb-true _ _ (and_right (eqb (mark_at t i) 1) _ later);
      }

  is_follows : (i : ℕ) → Follows t i → follows_first (view_of t) i ≡ true
  is_follows i f = rw (eq-eqb (site_at t i) (site_at t 0) f.site, f.marked, lt-ltb (sequence_at t 0) (sequence_at t i) f.greater)

  none_waits : ((i : ℕ) → i < count_of t → (row_at t i).refers_to 0 ≡ true → mark_at t i ≡ 1) → any_below (waits_for_first (view_of t)) (count_of t) ≡ false
  none_waits all = any_false (waits_for_first (view_of t)) (count_of t) (λ i h. by_test ((row_at t i).refers_to 0) (λ y. rw (y, all i h y)) (λ n. rw n))

  retirable_is : (retirable (view_of t) ≡ true) ↔ Retirable t
  unfolding retirable
  retirable_is = (
    λ e. let later : (referrers_interpreted (view_of t) && site_goes_on (view_of t)) ≡ true = and_right (first_interpreted (view_of t)) _ e in
        let w = any_true_at (follows_first (view_of t)) (count_of t) (and_right (referrers_interpreted (view_of t)) _ later) in
        record { marked = first_marked (view_of t) e; referrers = waits_none (view_of t) e; follower = (w.0, follows_is w.0 w.1 w.2) },
    λ r. let f = r.follower in
        rw (r.marked, none_waits r.referrers, any_true (follows_first (view_of t)) (count_of t) f.0 f.1.below (is_follows f.0 f.1)),
  )

module _ (t : Bytes) (buffer : List ℕ) where
  abbrev checks : List Check
  checks = retiring_checks (in_form t) (view_of t) (length buffer)

  -- those after the first three
  abbrev rest : List Check
  rest = drop 3 checks

  told : Decided (retiring t buffer) checks 0
  unfolding retiring different elsewhere
  told = decided checks 0 refl

  pub causes : Causes t buffer
  unfolding retiring valued_only some_in
  causes =
      record {
        two = two t buffer 0 rest told;
        twelve = twelve t buffer 0 rest told;
        thirteen = Iff.trans (thirteen t buffer 0 rest told) (λ p. (p.0, omega (arith, p.1)), λ p. (p.0, omega (arith, p.1)));
        twenty_nine = Iff.trans (told.refused 3 (omega arith)) (Iff.and (held t buffer 0 rest) (missed _ _ (retirable_is t)));
        none = Iff.trans told.none (Iff.and (held t buffer 0 rest) (retirable_is t));
        no_value = no_value [] checks 0 refl refl;
      }

  pub goes_on : RecordsSized t buffer → ((i : ℕ) → i < count_of t → mark_at t i ≡ 1) → (i : ℕ) → i < count_of t → site_at t i ≡ site_at t 0
      → sequence_at t 0 < sequence_at t i → (retiring t buffer).refusal ≡ 0
  goes_on whole all i h s l =
      causes.none.1 (
        record { records_sized = whole; below = omega arith },
        record {
          marked = all 0 (omega arith);
          referrers = λ j k y. all j k;
          follower = (i, record { below = h; site = s; marked = all i h; greater = l });
        },
      )
