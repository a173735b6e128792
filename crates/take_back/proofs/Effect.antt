-- A taking back that passes its checks: the table shows the other places as they were, is in form, and its rows stand as their bytes where they did
-- before. One that is refused changes nothing. Assumes nothing.
use mathlib.Core.Path.{◌≡◌, refl, sym, ◌∙◌, subst}
use mathlib.Core.Bool.{true}
use mathlib.Core.Logic.{◌≢◌}
use Prim.Native.Nat.{suc, ◌<◌}
use native.Mathlib.Omega.{arith}
use lib.Dec.{eqb}
use borrow.Author.Tests.{eqb-true, eqb-false, ne_eqb, ltb-true}
use Rattle.base.specs.Bytes.{Bytes}
use Rattle.base.proofs.Tests.{by_test}
use Rattle.answer.specs.Promises.{FirstHold, elsewhere, different}
use Rattle.answer.proofs.Promises.{all_passed}
use Rattle.setup.specs.Setup.{Setup}
use Rattle.table.specs.View.{View}
use Rattle.table.specs.Layout.{setup_of, count_of, view_of}
use Rattle.table.specs.Writing.{without_last, without_row}
use Rattle.table.specs.Form.{in_form}
use Rattle.table.specs.Promises.{Shows}
use Rattle.table.proofs.Views.{ViewInForm, row_same, same_refl}
use Rattle.table.proofs.InForm.{TableForm, table_form, shows_formed}
use Rattle.table.proofs.Canonical.{Canonical}
use Rattle.table.proofs.ClearedRow.{left_shows, left_canonical}
use Rattle.take_back.specs.TakingBack.{taking_back_checks, taking_back, taken_back}

-- the view that is left is in form: no row refers to a later one
pub held_left : (s : Setup) (v : View) → ViewInForm s v → ViewInForm s (without_last v)
held_left s v h =
    record {
      lawful = h.lawful;
      retired = h.retired;
      fits = omega (arith, h.fits);
      rows = λ i l. row_same s (without_last v) v i refl (same_refl v (suc i)) (omega (arith, h.fits)) ∙ h.rows i (omega arith);
    }

module _ (t : Bytes) (e : (taking_back t).refusal ≡ 0) where
  passes : FirstHold (taking_back_checks (in_form t) (view_of t)) 3
  unfolding taking_back different elsewhere
  passes = all_passed (taking_back_checks (in_form t) (view_of t)) 0 refl e

  formed : TableForm t
  formed = table_form t passes.0.0.1

  some : 0 < count_of t
  some = ltb-true 0 (count_of t) passes.0.1

  pub table_passed : taken_back t ≡ without_row t
  unfolding taken_back
  table_passed = rw e

  pub shows : Shows (setup_of t) (without_last (view_of t)) (taken_back t)
  shows = subst (Shows (setup_of t) (without_last (view_of t))) (sym table_passed) (left_shows t formed.size some formed.held.fits formed.zeros)

  form_left : in_form (taken_back t) ≡ true
  form_left = shows_formed (setup_of t) (without_last (view_of t)) _ shows (held_left (setup_of t) (view_of t) formed.held)

  canonical_left : Canonical t → Canonical (taken_back t)
  canonical_left c = subst Canonical (sym table_passed) (left_canonical t formed.size some formed.held.fits formed.zeros c)

-- ---- passed or refused

module _ (t : Bytes) where
  pub refused : (taking_back t).refusal ≢ 0 → taken_back t ≡ t
  unfolding taken_back
  refused n = rw (ne_eqb (taking_back t).refusal 0 n)

  either : (P : Bytes → Type 0) → P t → ((taking_back t).refusal ≡ 0 → P (taken_back t)) → P (taken_back t)
  either P was now = by_test (eqb (taking_back t).refusal 0)
      (λ y. now (eqb-true (taking_back t).refusal 0 y))
      (λ n. subst P (sym (refused (eqb-false (taking_back t).refusal 0 n))) was)

  pub kept : in_form t ≡ true → in_form (taken_back t) ≡ true
  kept f = either (λ (x : Bytes). in_form x ≡ true) f (form_left t)

  pub taken_canonical : Canonical t → Canonical (taken_back t)
  taken_canonical c = either Canonical c (λ e. canonical_left t e c)
