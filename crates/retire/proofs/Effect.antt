-- A retiring that passes its checks: the table shows the other places one place lower, is in form, and its rows stand as their bytes where
-- they did before. One that is refused changes nothing. Assumes nothing.
use mathlib.Core.Path.{◌≡◌, refl, sym, ap, ◌∙◌, subst}
use mathlib.Core.Bool.{Bool, true, false, cond, not, ◌&&◌, ◌||◌}
use mathlib.Core.Logic.{◌≢◌, inl, inr}
use mathlib.Core.List.{List}
use Prim.Native.Nat.{ℕ, suc, ◌+◌, ◌<◌, suc-le-suc}
use native.Mathlib.Nat.{le_of_suc-le-suc}
use native.Mathlib.Omega.{arith}
use lib.Dec.{eqb, ltb}
use lib.ListN.{length}
use borrow.Author.Tests.{eqb-true, eqb-false, eq-eqb, ne_eqb, lt-ltb, ltb-true, not-true, not-false}
use Rattle.base.specs.Search.{any_below}
use Rattle.base.specs.Bytes.{Bytes}
use Rattle.base.proofs.Tests.{by_test, and_left, and_right, and_not_right, or_cases, or_true}
use Rattle.base.proofs.Search.{any_false_at}
use Rattle.base.proofs.Count.{count_first, count_same}
use Rattle.answer.specs.Promises.{FirstHold, elsewhere, different}
use Rattle.answer.proofs.Promises.{all_passed}
use Rattle.setup.specs.Setup.{Setup}
use Rattle.table.specs.View.{max_places, Row, interpreted, View}
use Rattle.table.specs.Layout.{setup_of, count_of, view_of}
use Rattle.table.specs.Writing.{moved_row, without_first, move_down}
use Rattle.table.specs.Rules.{parent_row, parents, parent_rule, parent_in_form}
use Rattle.table.specs.Form.{in_form}
use Rattle.table.specs.Promises.{Shows}
use Rattle.table.proofs.Views.{RowForm, row_form, form_row, ViewInForm, rule_formed}
use Rattle.table.proofs.InForm.{TableForm, table_form, shows_formed}
use Rattle.table.proofs.Canonical.{Canonical}
use Rattle.table.proofs.LoweredRows.{down_shows, down_canonical}
use Rattle.records.specs.Layout.{buffer_size}
use Rattle.records.specs.Moving.{moved_parts, Moved}
use Rattle.records.proofs.Moving.{moved}
use Rattle.retire.specs.Retiring.{waits_for_first, first_interpreted, referrers_interpreted, site_goes_on, retirable, retiring_checks, retiring, retired_table, retired_records}
use Rattle.retire.proofs.LowerCounts.{count_moved}

-- ---- what may be retired

-- no held place that refers to place 0 is left uninterpreted
pub waits_none : (v : View) → retirable v ≡ true → (i : ℕ) → i < v.held → (v.row i).refers_to 0 ≡ true → (v.row i).mark ≡ 1
unfolding retirable
waits_none v r i h y =
    let none : any_below (waits_for_first v) v.held ≡ false = not-true _ (and_left (referrers_interpreted v) (site_goes_on v) (and_right (first_interpreted v) _ r)) in
    eqb-true (v.row i).mark 1 (not-false _ (and_not_right ((v.row i).refers_to 0) (not (interpreted (v.row i))) (any_false_at (waits_for_first v) v.held none i h) y))

pub first_marked : (v : View) → retirable v ≡ true → (v.row 0).mark ≡ 1
unfolding retirable
first_marked v r = eqb-true (v.row 0).mark 1 (and_left (first_interpreted v) _ r)

-- ---- the rows that are left are in form

module _ (s : Setup) (v : View) (form : ViewInForm s v) (r : retirable v ≡ true) (some : 0 < v.held) where
  abbrev w : View
  w = without_first v

  module _ (i : ℕ) (h : suc i < v.held) where
    was : RowForm s v (suc i)
    was = row_form s v (suc i) (form.rows (suc i) h)

    abbrev here : Row
    here = v.row (suc i)

    -- it refers to place j, and that block is a parent for it
    abbrev is_one : ℕ → Bool
    is_one j = here.refers_to j && parent_row here (v.row j)

    parents_moved : parents v (suc i) here ≡ cond (is_one 0) 1 0 + parents w i (moved_row here)
    unfolding parents
    parents_moved =
        count_first is_one i ∙ ap (λ (n : ℕ). cond (is_one 0) 1 0 + n)
        (count_same (λ j. is_one (suc j)) (λ j. (ltb (suc j) max_places && here.refers_to (suc j)) && parent_row here (v.row (suc j))) i
        (λ j l. let y : ltb (suc j) max_places ≡ true = lt-ltb (suc j) max_places (omega (arith, form.fits)) in rw y))

    -- no parent is left, and it is interpreted
    none_left : parents w i (moved_row here) ≡ 0 → here.mark ≡ 1 → parent_in_form w i (moved_row here) ≡ true
    unfolding parent_in_form
    none_left e m = rw (eq-eqb here.mark 1 m, eq-eqb (parents w i (moved_row here)) 0 e) (or_true (parent_rule w i (moved_row here)))

    has_rule : (eqb here.sequence 0 || eqb (parents w i (moved_row here)) 1) ≡ true → parent_in_form w i (moved_row here) ≡ true
    unfolding parent_rule
    has_rule e = rule_formed w i (moved_row here) e

    parent_left : parent_in_form w i (moved_row here) ≡ true
    unfolding parent_in_form parent_rule
    parent_left = elim (or_cases (parent_rule v (suc i) here) _ was.parent) [
      | inl p ↦ elim (or_cases (eqb here.sequence 0) _ p) [
        | inl z ↦ has_rule (rw z)
        | inr o ↦ let one : parents v (suc i) here ≡ 1 = eqb-true _ 1 o in by_test (is_one 0)
            (λ y. let c : ◌≡◌ {A = ℕ} (cond (is_one 0) 1 0) 1 = rw y in
            none_left (omega (arith, parents_moved)) (waits_none v r (suc i) h (and_left (here.refers_to 0) (parent_row here (v.row 0)) y)))
            (λ n. let c : ◌≡◌ {A = ℕ} (cond (is_one 0) 1 0) 0 = rw n in
            let q : parents w i (moved_row here) ≡ 1 = omega (arith, parents_moved) in has_rule (rw q (or_true (eqb here.sequence 0))))
      ]
      | inr p ↦
          let none : parents v (suc i) here ≡ 0 = eqb-true _ 0 (and_right (eqb v.retired 1 && interpreted here) _ p) in
          let m : here.mark ≡ 1 = eqb-true here.mark 1 (and_right (eqb v.retired 1) (interpreted here) (and_left (eqb v.retired 1 && interpreted here) _ p)) in
          none_left (omega (arith, parents_moved)) m
    ]

    row_left : RowForm s w i
    row_left =
        record {
          site = was.site;
          mark = was.mark;
          lower = λ j l y. le_of_suc-le-suc (was.lower (suc j) (ltb-true (suc j) max_places (and_left (ltb (suc j) max_places) (here.refers_to (suc j)) y)) (and_right (ltb (suc j) max_places) (here.refers_to (suc j)) y));
          few = omega (arith, count_moved here.refers_to max_places, was.few);
          new = λ j l e. was.new (suc j) (suc-le-suc l) e;
          closed = λ m j l y. was.closed m (suc j) (suc-le-suc l) (and_right (ltb (suc j) max_places) (here.refers_to (suc j)) y);
          parent = parent_left;
        }

  pub held_left : ViewInForm s w
  held_left =
      record {
        lawful = form.lawful;
        retired = omega arith;
        fits = omega (arith, form.fits);
        rows = λ i h. form_row s w i (row_left i (omega arith));
      }

-- ---- the call

module _ (t : Bytes) (buffer : List ℕ) (e : (retiring t buffer).refusal ≡ 0) where
  pub passes : FirstHold (retiring_checks (in_form t) (view_of t) (length buffer)) 4
  unfolding retiring different elsewhere
  passes = all_passed (retiring_checks (in_form t) (view_of t) (length buffer)) 0 refl e

  pub formed : TableForm t
  formed = table_form t passes.0.0.0.1

  pub some : 0 < count_of t
  some = ltb-true 0 (count_of t) passes.0.1

  pub may : retirable (view_of t) ≡ true
  may = passes.1

  pub table_passed : retired_table t buffer ≡ move_down t
  unfolding retired_table
  table_passed = rw e

  pub records_passed : retired_records t buffer ≡ moved_parts buffer (count_of t)
  unfolding retired_records
  records_passed = rw e

  pub shows_left : Shows (setup_of t) (without_first (view_of t)) (move_down t)
  shows_left =
      down_shows t formed.size some formed.held.fits formed.zeros

  pub form_left : in_form (move_down t) ≡ true
  form_left = shows_formed (setup_of t) (without_first (view_of t)) _ shows_left (held_left (setup_of t) (view_of t) formed.held may some)

  pub parts_left : Moved buffer (moved_parts buffer (count_of t)) (count_of t)
  parts_left = moved buffer (count_of t) (eqb-true (length buffer) buffer_size passes.0.0.1) some formed.held.fits

  pub canonical_left : Canonical t → Canonical (move_down t)
  canonical_left = down_canonical t formed.size some formed.held.fits formed.zeros

-- ---- the call, passed or refused

module _ (t : Bytes) (buffer : List ℕ) where
  pub refused : (retiring t buffer).refusal ≢ 0 → (retired_table t buffer ≡ t) × (retired_records t buffer ≡ buffer)
  unfolding retired_table retired_records
  refused n = let z = ne_eqb (retiring t buffer).refusal 0 n in (rw z, rw z)

  either : (P : Bytes → Type 0) → P t → ((retiring t buffer).refusal ≡ 0 → P (move_down t)) → P (retired_table t buffer)
  either P was now = by_test (eqb (retiring t buffer).refusal 0)
      (λ y. let e = eqb-true (retiring t buffer).refusal 0 y in subst P (sym (table_passed t buffer e)) (now e))
      (λ n. subst P (sym (refused (eqb-false (retiring t buffer).refusal 0 n)).0) was)

  pub kept : in_form t ≡ true → in_form (retired_table t buffer) ≡ true
  kept f = either (λ (x : Bytes). in_form x ≡ true) f (form_left t buffer)

  pub sized : length (retired_records t buffer) ≡ length buffer
  sized = by_test (eqb (retiring t buffer).refusal 0)
      (λ y. let e = eqb-true (retiring t buffer).refusal 0 y in ap length (records_passed t buffer e) ∙ (parts_left t buffer e).size)
      (λ n. ap length (refused (eqb-false (retiring t buffer).refusal 0 n)).1)
