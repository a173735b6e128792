-- An admitted block stands at the next place, and its row shows what its bytes say; and a table in form is in form after an admission, since the row
-- that is put is in form. A refusal leaves the table. Assumes nothing.
use mathlib.Core.Path.{◌≡◌, sym, ap, ◌∙◌}
use mathlib.Core.Bool.{Bool, true, false, ◌&&◌}
use mathlib.Core.Logic.{◌≢◌}
use Prim.Native.Nat.{ℕ, ◌≤◌, ◌<◌}
use native.Mathlib.Omega.{arith}
use lib.Dec.{eqb, ltb}
use lib.ListN.{length}
use borrow.Author.Tests.{eqb-true, ne_eqb, ltb-true}
use Rattle.base.specs.Search.{first_below}
use Rattle.base.specs.Count.{count_below}
use Rattle.base.specs.Bytes.{Bytes, same_bytes}
use Rattle.base.proofs.Tests.{by_test, and_left, and_right}
use Rattle.base.proofs.Search.{any_first, first_passes}
use Rattle.base.proofs.Count.{count_same, count_injective}
use Rattle.base.proofs.Bytes.{same_equal}
use Rattle.block.specs.Limits.{reference_size, max_references}
use Rattle.block.specs.Layout.{reference_count, reference_list, reference_at}
use Rattle.block.specs.Reading.{fields_of}
use Rattle.block.proofs.Acceptance.{reading_accepted}
use Rattle.table.specs.View.{max_places, Row, View}
use Rattle.table.specs.Layout.{setup_of, count_of, digest_at, row_at, view_of, with_row}
use Rattle.table.specs.Rules.{row_in_form}
use Rattle.table.specs.Form.{in_form}
use Rattle.table.specs.Promises.{Grown}
use Rattle.table.proofs.Views.{RowForm, row_form, form_row, same_sym, rule_same, rule_formed}
use Rattle.table.proofs.InForm.{TableForm, table_form, in_formed}
use Rattle.table.proofs.AddedRow.{grown, grown_formed}
use Rattle.admission.specs.Admission.{lists, row_for, admission, admitted}
use Rattle.admission.specs.Promises.{Readable, Parented}
use Rattle.admission.proofs.Causes.{causes}

-- a refusal leaves the table
pub refused_table : (digest : Bytes → Bytes) (t b : Bytes) (verdict : ℕ) → (admission digest t b verdict).refusal ≢ 0 → admitted digest t b verdict ≡ t
unfolding admitted
refused_table digest t b verdict n = rw (ne_eqb (admission digest t b verdict).refusal 0 n)

-- ---- a block refers to as many places as it has references, at most

module _ (v : View) (b : Bytes) (differ : (i j : ℕ) → i < j → j < v.held → (v.row i).digest ≢ (v.row j).digest) where
  -- place j is held, and its digest is among the references
  abbrev refers : ℕ → Bool
  refers j = ltb j v.held && lists b (v.row j).digest

  -- the reference that names a place
  abbrev names : ℕ → ℕ → Bool
  names j i = same_bytes (reference_at (reference_list b) i) (v.row j).digest

  abbrev named_by : ℕ → ℕ
  named_by j = first_below (names j) (reference_count b)

  within : (j : ℕ) → refers j ≡ true → named_by j < reference_count b
  within j y = any_first (names j) (reference_count b) (and_right (ltb j v.held) (lists b (v.row j).digest) y)

  named : (j : ℕ) → refers j ≡ true → reference_at (reference_list b) (named_by j) ≡ (v.row j).digest
  named j y = same_equal _ _ (first_passes (names j) (reference_count b) (within j y))

  refers_held : (j : ℕ) → refers j ≡ true → j < v.held
  refers_held j y = ltb-true j v.held (and_left (ltb j v.held) (lists b (v.row j).digest) y)

  refers_few : count_below refers max_places ≤ reference_count b
  refers_few =
      count_injective refers named_by max_places (reference_count b) (λ j h y. within j y)
      (λ i j h l y z e. differ i j h (refers_held j z) (sym (named i y) ∙ ap (reference_at (reference_list b)) e ∙ named j z))

-- ---- the row of an admitted block

module _ (digest : Bytes → Bytes) (t t' b : Bytes) (verdict : ℕ) (p : Parented digest t b verdict) (g : Grown t t' (row_for digest (view_of t) b)) where
  abbrev readable : Readable t b verdict
  readable = p.linked.is_new.readable

  form : TableForm t
  form = table_form t readable.formed

  -- "digests all different"
  differ : (i j : ℕ) → i < j → j < count_of t → digest_at t i ≢ digest_at t j
  differ i j h l = (row_form (setup_of t) (view_of t) j (form.held.rows j l)).new i h

  few : count_below (row_at t' (count_of t)).refers_to max_places ≤ max_references
  few =
      let same = count_same (row_at t' (count_of t)).refers_to (refers (view_of t) b differ) max_places g.here.refers_to in
      let shape = (reading_accepted b (fields_of b) readable.accepted).accepted.shape in
      omega (arith, refers_few (view_of t) b differ, shape.references)

  row_formed : RowForm (setup_of t) (view_of t') (count_of t)
  row_formed =
      record {
        site = omega (arith, g.here.site, readable.site);
        mark = omega (arith, g.here.mark);
        lower = λ j h y. refers_held (view_of t) b differ j (sym (g.here.refers_to j h) ∙ y);
        few = few;
        new = λ j h e. p.linked.is_new.new (j, (h, (g.below j h).digest ∙ e ∙ g.here.digest));
        -- it is uninterpreted
        closed = λ m. absurd (omega (arith, g.here.mark));
        parent =
            rule_formed (view_of t') (count_of t) (row_at t' (count_of t)) (rule_same (view_of t') (view_of t) (count_of t) (row_at t' (count_of t)) (row_for digest (view_of t) b)
            (same_sym (view_of t) (view_of t') (count_of t) g.below) form.held.fits g.here ∙ p.parent);
      }

  row_in_form_lem : row_in_form (setup_of t) (view_of t') (count_of t) ≡ true
  row_in_form_lem = form_row (setup_of t) (view_of t') (count_of t) row_formed

-- ---- the table after a call

module _ (digest : Bytes → Bytes) (t b : Bytes) (verdict : ℕ) where
  abbrev after : Bytes
  after = admitted digest t b verdict

  abbrev row : Row
  row = row_for digest (view_of t) b

  entered : (admission digest t b verdict).refusal ≡ 0 → after ≡ with_row t row
  unfolding admitted
  entered e = rw e

  refused : eqb (admission digest t b verdict).refusal 0 ≡ false → after ≡ t
  unfolding admitted
  refused n = rw n

  module _ (sized : (b : Bytes) → length (digest b) ≡ reference_size) where
    pub shown : (admission digest t b verdict).refusal ≡ 0 → Grown t after row
    shown e =
        let c = (causes digest t b verdict).none.0 e in
        rw (entered e) (grown t row (table_form t c.0.linked.is_new.readable.formed).size c.1 (sized b))

    pub kept : in_form t ≡ true → in_form after ≡ true
    kept f = by_test (eqb (admission digest t b verdict).refusal 0) (λ y. grows (eqb-true _ _ y)) (λ n. ap in_form (refused n) ∙ f)
      where
        grows : (admission digest t b verdict).refusal ≡ 0 → in_form after ≡ true
        grows e =
            let c = (causes digest t b verdict).none.0 e in
            in_formed after (grown_formed t after row (table_form t f) c.1 (shown e) (row_in_form_lem digest t after b verdict c.0 (shown e)))
