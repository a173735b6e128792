-- What a table in form has. Assumes nothing.
use mathlib.Core.Path.{◌≡◌, sym, ap, ◌∙◌}
use mathlib.Core.Logic.{◌≢◌}
use mathlib.Core.Bool.{true, false}
use Prim.Native.Nat.{ℕ, ◌≤◌, ◌<◌}
use native.Mathlib.Omega.{arith}
use lib.Dec.{ltb}
use lib.ListN.{length, drop}
use Rattle.std.specs.Prelude.{Option, Some, None, MatchOption}
use Rattle.std.specs.Array.{IsWholeChunk}
use borrow.Author.Tests.{eq-eqb, eqb-true, ltb-true, ltb-false}
use Rattle.base.specs.Bytes.{Bytes, all_zero}
use Rattle.base.proofs.Tests.{by_test, and_left, and_right}
use Rattle.setup.specs.Setup.{Setup}
use Rattle.table.specs.View.{max_places, View}
use Rattle.table.specs.Layout.{table_size, row_start, setup_of, retired_of, count_of, digest_at, row_at, view_of}
use Rattle.table.specs.Rules.{parent_rule, held_in_form}
use Rattle.table.specs.Form.{in_form}
use Rattle.table.specs.Promises.{Shows}
use Rattle.table.proofs.Views.{same_sym, held_same, form_rule, RowForm, row_form, ViewInForm, held_of, held_in}

pub record TableForm (t : Bytes) : Type 0 where
  pub size : length t ≡ table_size
  pub held : ViewInForm (setup_of t) (view_of t)
  -- entries from the count on
  pub zeros : all_zero (drop (row_start (count_of t)) t) ≡ true

pub table_form : (t : Bytes) → in_form t ≡ true → TableForm t
unfolding in_form
table_form t e =
    record {
      size = eqb-true (length t) table_size (search and_left);
      held = held_of (setup_of t) (view_of t) (search (and_left, and_right));
      zeros = search and_right;
    }

pub formed_places : (t : Bytes) → in_form t ≡ true → count_of t ≤ max_places
formed_places t e = (table_form t e).held.fits

-- where a buffer in form is taken for a table, it is one
pub whole_table : {B : Type 0} (t : Bytes) (now : B → Bytes) (r : Option B) → in_form t ≡ true
    → MatchOption r (length t ≢ table_size) (λ y. IsWholeChunk t (now y) table_size) → MatchOption r (in_form t ≡ false) (λ y. (now y ≡ t) × (in_form t ≡ true))
whole_table t now (Some y) f w = (w.same, f)
whole_table t now None f w = absurd (w (table_form t f).size)

pub formed_row : (t : Bytes) → in_form t ≡ true → (i : ℕ) → i < count_of t → RowForm (setup_of t) (view_of t) i
formed_row t f i h = row_form (setup_of t) (view_of t) i ((table_form t f).held.rows i h)

-- where nothing has been retired, each place has its parent
pub formed_parent : (t : Bytes) → in_form t ≡ true → retired_of t ≡ 0 → (i : ℕ) → i < count_of t → parent_rule (view_of t) i (row_at t i) ≡ true
formed_parent t f none i h = sym (form_rule (view_of t) i (row_at t i) none) ∙ (formed_row t f i h).parent

-- a digest stands at one place
pub one_place : (t : Bytes) → in_form t ≡ true → (i j : ℕ) → i < count_of t → j < count_of t → digest_at t i ≡ digest_at t j → i ≡ j
one_place t f i j h l e = by_test (ltb i j)
    (λ y. absurd ((formed_row t f j l).new i (ltb-true i j y) e))
    (λ n. by_test (ltb j i)
    (λ y. absurd ((formed_row t f i h).new j (ltb-true j i y) (sym e)))
    (λ m. omega (arith, ltb-false i j n, ltb-false j i m)))

pub in_formed : (t : Bytes) → TableForm t → in_form t ≡ true
unfolding in_form
in_formed t f = rw (eq-eqb (length t) table_size f.size, held_in (setup_of t) (view_of t) f.held, f.zeros)

-- a table that shows a view in form, and zeros behind it, is in form
pub shows_formed : (s : Setup) (v : View) (t : Bytes) → Shows s v t → ViewInForm s v → in_form t ≡ true
unfolding in_form
shows_formed s v t w h =
    let held : held_in_form (setup_of t) (view_of t) ≡ true =
    ap (λ (z : Setup). held_in_form z (view_of t)) w.setup
    ∙ sym (held_same s v (view_of t) (sym w.retired) (sym w.count) (same_sym (view_of t) v v.held w.rows) h.fits) ∙ held_in s v h in
    let zeros : all_zero (drop (row_start (count_of t)) t) ≡ true = ap (λ (n : ℕ). all_zero (drop (row_start n) t)) w.count ∙ w.zeros in
    rw (eq-eqb (length t) table_size w.size, held, zeros)
