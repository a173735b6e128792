-- Each refusal of an interpretation comes under its cause and under no other, and there is none where every check holds. Assumes nothing.
use mathlib.Core.Path.{◌≡◌, refl, sym, subst}
use mathlib.Core.Bool.{Bool, true, not}
use mathlib.Core.Logic.Iff
use mathlib.Core.Logic.{◌↔◌}
use mathlib.Core.List.{List, [], ◌∷◌}
use Prim.Native.Nat.{ℕ, ◌<◌}
use native.Mathlib.Omega.{arith}
use lib.Dec.{eqb}
use lib.ListN.{length, drop}
use borrow.Author.Tests.{eq-eqb, ne_eqb, eqb-true, eqb-false, not-true}
use Rattle.base.specs.Search.{any_below, First}
use Rattle.base.specs.List.{some_in}
use Rattle.base.specs.Bytes.{Bytes}
use Rattle.base.proofs.Tests.{and_left, and_right}
use Rattle.base.proofs.Search.{any_such, first_such}
use Rattle.answer.specs.Checks.{Check}
use Rattle.answer.specs.Promises.{FirstHold, elsewhere, different, Decided}
use Rattle.answer.proofs.Checks.{valued_only, no_value, absent, present}
use Rattle.answer.proofs.Promises.{decided}
use Rattle.table.specs.Layout.{mark_at, row_at, view_of}
use Rattle.table.specs.Rules.{refers_uninterpreted}
use Rattle.table.specs.Form.{in_form}
use Rattle.interpret.specs.Interpretation.{interpretation_checks, interpretation}
use Rattle.interpret.specs.Promises.{Open, Unready, Causes}
use Rattle.interpret.proofs.FirstChecks.{held, two, twelve, thirteen}

module _ (t : Bytes) (buffer : List ℕ) (i : ℕ) where
  -- ---- what each check says

  abbrev unready : ℕ → Bool
  unready = refers_uninterpreted (view_of t) (row_at t i)

  unready_means : (j : ℕ) → ((j < i) × (unready j ≡ true)) ↔ Unready t i j
  unready_means j = (
    λ p.
        record {
          lower = p.0;
          refers = and_left ((row_at t i).refers_to j) (not (eqb (mark_at t j) 1)) p.1;
          unmarked = eqb-false (mark_at t j) 1 (not-true _ (and_right ((row_at t i).refers_to j) (not (eqb (mark_at t j) 1)) p.1));
        },
    λ u. (u.lower, rw (u.refers, ne_eqb (mark_at t j) 1 u.unmarked)),
  )

  some_unready : (any_below unready i ≡ true) ↔ ((j : ℕ) × Unready t i j)
  some_unready = any_such unready i (Unready t i) unready_means

  is_marked : (eqb (mark_at t i) 1 ≡ true) ↔ (mark_at t i ≡ 1)
  is_marked = (eqb-true (mark_at t i) 1, eq-eqb (mark_at t i) 1)

  -- ---- the checks in their order

  abbrev checks : List Check
  checks = interpretation_checks (in_form t) (view_of t) (length buffer) i

  -- those after the first three
  abbrev rest : List Check
  rest = drop 3 checks

  told : Decided (interpretation t buffer i) checks 0
  unfolding interpretation different elsewhere
  told = decided checks 0 refl

  is_open : FirstHold checks 4 ↔ Open t buffer i
  is_open =
      let here = absent _ _ is_marked in
      (λ p. record { place_held = (held t buffer i rest).0 p.0; unmarked = here.0 p.1 }, λ o. ((held t buffer i rest).1 o.place_held, here.1 o.unmarked))

  fifteen : ((interpretation t buffer i).refusal ≡ 15) ↔ (Open t buffer i × ((j : ℕ) × Unready t i j))
  fifteen = Iff.trans (told.refused 4 (omega arith)) (Iff.and is_open (present _ _ some_unready))

  pub causes : Causes t buffer i
  unfolding interpretation valued_only some_in
  causes =
      record {
        two = two t buffer i rest told;
        twelve = twelve t buffer i rest told;
        thirteen = thirteen t buffer i rest told;
        fourteen = Iff.trans (told.refused 3 (omega arith)) (Iff.and (held t buffer i rest) (present _ _ is_marked));
        fifteen = fifteen;
        none = Iff.trans told.none (Iff.and is_open (absent _ _ some_unready));
        lowest = λ e. subst (First (Unready t i)) (sym (told.valued 4 (omega arith) e)) (first_such unready i (Unready t i) unready_means (some_unready.1 (fifteen.0 e).1));
        no_value = λ n. no_value (15 ∷ []) checks 0 refl (rw (ne_eqb (interpretation t buffer i).refusal 15 n));
      }
