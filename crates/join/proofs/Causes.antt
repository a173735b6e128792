-- Each refusal of joining comes under its cause and under no other. Assumes nothing.
use mathlib.Core.Path.{◌≡◌, refl, sym, subst}
use mathlib.Core.Bool.{Bool, true, false, not, ◌&&◌}
use mathlib.Core.Logic.Iff
use mathlib.Core.Logic.{◌↔◌, ◌≢◌, ◌⊎◌}
use mathlib.Core.List.{List, [], ◌∷◌}
use Prim.Native.Nat.{ℕ, ◌<◌}
use native.Mathlib.Omega.{arith}
use lib.Dec.{eqb}
use lib.ListN.{length}
use borrow.Author.Tests.{eqb-false, eq-eqb, ne_eqb, le-leb, leb-true, lt-leb, leb-false, not-true}
use Rattle.base.specs.Search.{any_below, First}
use Rattle.base.specs.List.{some_in}
use Rattle.base.specs.Bytes.{Bytes}
use Rattle.base.proofs.Tests.{and_left, and_right}
use Rattle.base.proofs.Search.{any_true, any_true_at, any_such, first_such}
use Rattle.base.proofs.Bytes.{same_equal, equal_same}
use Rattle.answer.specs.Checks.{Check}
use Rattle.answer.specs.Promises.{FirstHold, elsewhere, different, Decided}
use Rattle.answer.proofs.Checks.{valued_only, no_value, absent, present, missed, either_fails}
use Rattle.answer.proofs.Promises.{first_refused, decided}
use Rattle.table.specs.Layout.{setup_of, retired_of, count_of, digest_at, view_of}
use Rattle.table.specs.Rules.{has_digest}
use Rattle.table.specs.Form.{in_form}
use Rattle.records.specs.Layout.{buffer_size}
use Rattle.join.specs.Join.{same_block, clashes, clash_at, neither_retired, same_setup, joined_count, join_checks, join_answer}
use Rattle.join.specs.Promises.{BothFormed, BuffersSized, Unretired, OneSetup, Clash, Apart, Causes}
use Rattle.join.proofs.CheckedJoin.{setup_same, formed_both, whole_of, unretired_of}

module _ (left right : Bytes) (left_records right_records third : List ℕ) where
  -- ---- what the tests mean

  abbrev test : ℕ → Bool
  test i = clash_at (view_of left) (view_of right) i

  clash_means : (i : ℕ) → ((i < count_of left) × (test i ≡ true)) ↔ Clash left right i
  clash_means i = (
    λ p.
        let w = any_true_at (clashes (view_of left) (view_of right) i) (count_of right) p.1 in
        record {
          below = p.0;
          other = w.0;
          other_below = w.1;
          digest = same_equal _ _ (and_left (has_digest (view_of right) (digest_at left i) w.0) (not (same_block (view_of left) i (view_of right) w.0)) w.2);
          differ = not-true _ (and_right (has_digest (view_of right) (digest_at left i) w.0) (not (same_block (view_of left) i (view_of right) w.0)) w.2);
        },
    λ c. (c.below, any_true (clashes (view_of left) (view_of right) i) (count_of right) c.other c.other_below (rw (equal_same _ _ c.digest, c.differ))),
  )

  some_clash : (any_below test (count_of left) ≡ true) ↔ ((i : ℕ) × Clash left right i)
  some_clash = any_such test (count_of left) (Clash left right) clash_means

  -- either table is not in form
  formed_is : ((in_form left && in_form right) ≡ false) ↔ ((in_form left ≡ false) ⊎ (in_form right ≡ false))
  formed_is = either_fails _ _ Iff.rfl Iff.rfl

  -- one of the buffers has another length
  size_is : ((eqb (length left_records) buffer_size && (eqb (length right_records) buffer_size && eqb (length third) buffer_size)) ≡ false)
      ↔ ((length left_records ≢ buffer_size) ⊎ ((length right_records ≢ buffer_size) ⊎ (length third ≢ buffer_size)))
  size_is = either_fails _ _ (eqb-false _ _, ne_eqb _ _) (either_fails _ _ (eqb-false _ _, ne_eqb _ _) (eqb-false _ _, ne_eqb _ _))

  -- either has retired something
  retired_is : (neither_retired left right ≡ false) ↔ ((retired_of left ≢ 0) ⊎ (retired_of right ≢ 0))
  retired_is = either_fails _ _ (eqb-false _ 0, ne_eqb _ 0) (eqb-false _ 0, ne_eqb _ 0)

  setup_is : (same_setup (setup_of left) (setup_of right) ≡ true) ↔ (setup_of left ≡ setup_of right)
  setup_is = setup_same (setup_of left) (setup_of right)

  -- ---- the checks in their order

  abbrev checks : List Check
  checks = join_checks left right (length left_records) (length right_records) (length third)

  abbrev refusal : ℕ
  refusal = (join_answer left right left_records right_records third).refusal

  told : Decided (join_answer left right left_records right_records third) checks (joined_count (view_of left) (view_of right))
  unfolding join_answer different elsewhere
  told = decided checks _ refl

  formed : FirstHold checks 1 ↔ BothFormed left right
  formed = (λ p. formed_both left right p.1, λ f. (tt, rw (f.left_formed, f.right_formed)))

  whole : FirstHold checks 2 ↔ BuffersSized left right left_records right_records third
  whole = (
    λ p. whole_of left right left_records right_records third (formed.0 p.0) p.1,
    λ w. (
      formed.1 (record { left_formed = w.left_formed; right_formed = w.right_formed }),
      rw (eq-eqb _ _ w.left_size, eq-eqb _ _ w.right_size, eq-eqb _ _ w.size),
    ),
  )

  unretired : FirstHold checks 3 ↔ Unretired left right left_records right_records third
  unretired = (
    λ p. unretired_of left right left_records right_records third (whole.0 p.0) p.1,
    λ u. (whole.1 u.buffers_sized, rw (u.left_retired, u.right_retired)),
  )

  one_setup : FirstHold checks 4 ↔ OneSetup left right left_records right_records third
  one_setup = (λ p. record { unretired = unretired.0 p.0; setup = setup_is.0 p.1 }, λ o. (unretired.1 o.unretired, setup_is.1 o.setup))

  apart : FirstHold checks 5 ↔ Apart left right left_records right_records third
  apart =
      let here = absent _ _ some_clash in
      (λ p. record { one = one_setup.0 p.0; none = here.0 p.1 }, λ a. (one_setup.1 a.one, here.1 a.none))

  twenty_four : (refusal ≡ 24) ↔ (OneSetup left right left_records right_records third × ((i : ℕ) × Clash left right i))
  twenty_four = Iff.trans (told.refused 4 (omega arith)) (Iff.and one_setup (present _ _ some_clash))

  pub causes : Causes left right left_records right_records third (join_answer left right left_records right_records third)
  unfolding join_answer valued_only some_in
  causes =
      record {
        two = Iff.trans (first_refused told) formed_is;
        twelve = Iff.trans (told.refused 1 (omega arith)) (Iff.and formed size_is);
        thirty_one = Iff.trans (told.refused 2 (omega arith)) (Iff.and whole retired_is);
        twenty_three = Iff.trans (told.refused 3 (omega arith)) (Iff.and unretired (missed _ _ setup_is));
        twenty_four = twenty_four;
        twenty_five = Iff.trans (told.refused 5 (omega arith)) (Iff.and apart (leb-false _ _, lt-leb _ _));
        none = Iff.trans told.none (Iff.and apart (leb-true _ _, le-leb _ _));
        lowest = λ e. subst (First (Clash left right)) (sym (told.valued 4 (omega arith) e))
            (first_such test (count_of left) (Clash left right) clash_means (some_clash.1 (twenty_four.0 e).1));
        no_value = λ z n. no_value (0 ∷ 24 ∷ []) checks _ refl (rw (ne_eqb refusal 0 z, ne_eqb refusal 24 n));
      }
