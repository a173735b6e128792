-- What a table shows after a place was marked: the same but for that mark. So a table in form stays in form where the place's references
-- are interpreted. Assumes nothing.
use mathlib.Core.Path.{◌≡◌, refl, sym, ap, ap₂, ◌∙◌, subst}
use mathlib.Core.Bool.{Bool, true, false, cond, ◌&&◌, ◌||◌}
use mathlib.Core.List.{[], ◌∷◌}
use Prim.Native.Nat.{ℕ, ◌+◌, ◌-◌, ◌*◌, ◌≤◌, ◌<◌}
use native.Mathlib.Omega.{arith}
use lib.Dec.{eqb, ltb}
use lib.ListN.{length, get_or, take, drop}
use borrow.Author.Tests.{eqb-true, eqb-false, ltb-true, ltb-false}
use Rattle.base.specs.Bytes.{Bytes, all_zero, splice}
use Rattle.base.specs.Mask.{in_mask}
use Rattle.base.specs.LowFirst.{word_size, low_first}
use Rattle.base.specs.Number.{number, number_at}
use Rattle.base.proofs.Tests.{by_test, true_not_false}
use Rattle.base.proofs.Count.{count_same}
use Rattle.base.proofs.Splice.{drop_splice, splice_low, splice_in, splice_part_low, length_splice}
use Rattle.setup.specs.Setup.{slot_count}
use Rattle.block.specs.Limits.{reference_size}
use Rattle.table.specs.View.{max_places, Row, interpreted, SameRow, marked_if, View}
use Rattle.table.specs.Layout.{owners_offset, count_offset, site_offset, sequence_offset, references_offset, requests_offset, mark_offset, row_size, row_start, table_size, setup_of, count_of, row_at, view_of, with_mark, retired_offset, retired_of}
use Rattle.table.specs.Rules.{parents, parent_rule, parent_in_form}
use Rattle.table.specs.Promises.{Marked}
use Rattle.table.proofs.Views.{form_rule_reads, RowForm, row_form, form_row}
use Rattle.table.proofs.InForm.{TableForm}
use Rattle.table.proofs.RowBytes.{row_part, part_same}

module _ (t : Bytes) (i : ℕ) (size : length t ≡ table_size) (low : i < max_places) where
  abbrev at : ℕ
  at = row_start i + mark_offset

  within : at ≤ length t
  within = omega arith

  -- before the mark
  byte_kept : (j : ℕ) → j < at → get_or (with_mark t i) j 0 ≡ get_or t j 0
  unfolding with_mark
  byte_kept j h = splice_low t at (1 ∷ []) within j h

  number_kept : (j : ℕ) → j + 1 < at → number_at (with_mark t i) j ≡ number_at t j
  number_kept j h = ap₂ number (byte_kept j (omega arith)) (byte_kept (j + 1) h)

  pub part_kept : (start n : ℕ) → start + n ≤ at → take n (drop start (with_mark t i)) ≡ take n (drop start t)
  unfolding with_mark
  part_kept start n h = splice_part_low t at (1 ∷ []) within start n h

  -- behind it
  behind : (j : ℕ) → at < j → drop j (with_mark t i) ≡ drop j t
  unfolding with_mark
  behind j h =
      let e : j ≡ at + 1 + (j - (at + 1)) = omega arith in
      ap (λ (n : ℕ). drop n (splice t at (1 ∷ []))) e ∙ drop_splice t at (1 ∷ []) within (j - (at + 1)) ∙ ap (λ (n : ℕ). drop n t) (sym e)

  mark_set : get_or (with_mark t i) at 0 ≡ 1
  unfolding with_mark
  mark_set =
      let e : at ≡ at + 0 = omega arith in
      ap (λ (n : ℕ). get_or (splice t at (1 ∷ [])) n 0) e ∙ splice_in t at (1 ∷ []) within 0 (omega arith)

  -- the row that was marked
  row_here : SameRow (row_at (with_mark t i) i) (marked_if true (row_at t i))
  row_here =
      record {
        digest = part_kept (row_start i) reference_size (omega arith);
        site = byte_kept (row_start i + site_offset) (omega arith);
        sequence = number_kept (row_start i + sequence_offset) (omega arith);
        refers_to = λ j h. ap (λ (b : Bytes). in_mask (low_first b) j) (part_kept (row_start i + references_offset) word_size (omega arith));
        request = λ slot h. number_kept (row_start i + requests_offset + 2 * slot) (omega arith);
        mark = mark_set;
      }

  -- any other
  pub other : (j : ℕ) → eqb j i ≡ false → row_part (with_mark t i) j ≡ row_part t j
  other j n = by_test (ltb j i)
      (λ b. part_kept (row_start j) row_size (omega (arith, ltb-true j i b)))
      (λ b. ap (take row_size) (behind (row_start j) (omega (arith, ltb-false j i b, eqb-false j i n))))

  row_of : (j : ℕ) → SameRow (row_at (with_mark t i) j) (marked_if (eqb j i) (row_at t j))
  row_of j = by_test (eqb j i)
      (λ y. subst (λ (x : Bool). SameRow (row_at (with_mark t i) j) (marked_if x (row_at t j))) (sym y)
      (subst (λ (n : ℕ). SameRow (row_at (with_mark t i) n) (marked_if true (row_at t n))) (sym (eqb-true j i y)) row_here))
      (λ n. subst (λ (x : Bool). SameRow (row_at (with_mark t i) j) (marked_if x (row_at t j))) (sym n) (part_same (with_mark t i) t j (other j n)))

  pub marked : Marked t (with_mark t i) i
  unfolding with_mark
  marked =
      record {
        size = length_splice t at (1 ∷ []) (omega arith) ∙ size;
        setup = ap₂ (λ (x : ℕ) (y : Bytes). record { sites = x; owners = y }) (byte_kept 0 (omega arith)) (part_kept owners_offset slot_count (omega arith));
        retired = byte_kept retired_offset (omega arith);
        count = byte_kept count_offset (omega arith);
        rows = row_of;
        rest = λ n h. behind n (omega arith);
      }

-- ---- form is kept

-- the view with the mark set, of which the parent rule reads no mark
abbrev aside : Bytes → ℕ → View
aside t i = record { retired = retired_of t; held = count_of t; row = λ k. marked_if (eqb k i) (row_at t k) }

rule_aside : (t : Bytes) (i j : ℕ) (r : Row) → parent_in_form (aside t i) j r ≡ parent_in_form (view_of t) j r
unfolding parent_in_form parent_rule parents
rule_aside t i j r = refl

-- a mark more never puts a row out of form by its parent
rule_marks : (v : View) (k : ℕ) (r : Row) (test : Bool) → parent_in_form v k r ≡ true → parent_in_form v k (marked_if test r) ≡ true
unfolding parent_in_form parent_rule parents
rule_marks v k r false e = e
rule_marks v k r true e = go (parent_rule v k r) (eqb v.retired 1) (interpreted r) (eqb (parents v k r) 0) e
  where
    go : (a b c d : Bool) → (a || ((b && c) && d)) ≡ true → (a || ((b && true) && d)) ≡ true
    go true b c d h = refl
    go false true true d h = h
    go false true false d h = true_not_false h refl
    go false false c d h = h

module _ (t t' : Bytes) (i : ℕ) (f : TableForm t) (m : Marked t t' i) (below : i < count_of t)
    (ready : (j : ℕ) → j < i → (row_at t i).refers_to j ≡ true → (row_at t j).mark ≡ 1) where
  was : (j : ℕ) → j < count_of t → RowForm (setup_of t) (view_of t) j
  was j h = row_form (setup_of t) (view_of t) j (f.held.rows j h)

  mark_is : (j : ℕ) → (row_at t' j).mark ≡ cond (eqb j i) 1 (row_at t j).mark
  mark_is j = (m.rows j).mark

  -- what was interpreted still is
  still : (j : ℕ) → (row_at t j).mark ≡ 1 → (row_at t' j).mark ≡ 1
  still j e = mark_is j ∙ by_test (eqb j i) (λ y. rw y) (λ n. rw n e)

  marks : (j : ℕ) → j < count_of t → (row_at t' j).mark ≤ 1
  marks j h = by_test (eqb j i)
      (λ y. let e : (row_at t' j).mark ≡ 1 = mark_is j ∙ rw y in omega arith)
      (λ n. let e : (row_at t' j).mark ≡ (row_at t j).mark = mark_is j ∙ rw n in omega (arith, (was j h).mark))

  closed : (j : ℕ) → j < count_of t → (row_at t' j).mark ≡ 1 → (k : ℕ) → k < j → (row_at t' j).refers_to k ≡ true → (row_at t' k).mark ≡ 1
  closed j h e k l y =
      let z : (row_at t j).refers_to k ≡ true = sym ((m.rows j).refers_to k (omega (arith, f.held.fits))) ∙ y in
      by_test (eqb j i)
      (λ s. let q : j ≡ i = eqb-true j i s in still k (ready k (omega arith) (ap (λ (n : ℕ). (row_at t n).refers_to k) (sym q) ∙ z)))
      (λ n. still k ((was j h).closed (sym (mark_is j ∙ rw n) ∙ e) k l z))

  row_formed : (j : ℕ) → j < count_of t → RowForm (setup_of t) (view_of t') j
  row_formed j h =
      record {
        site = omega (arith, (m.rows j).site, (was j h).site);
        mark = marks j h;
        lower = λ k l y. (was j h).lower k l (sym ((m.rows j).refers_to k l) ∙ y);
        few = omega (arith, count_same (row_at t' j).refers_to (row_at t j).refers_to max_places (m.rows j).refers_to, (was j h).few);
        new = λ k l e. (was j h).new k l (sym (m.rows k).digest ∙ e ∙ (m.rows j).digest);
        closed = closed j h;
        parent =
            form_rule_reads (view_of t') (aside t i) j (row_at t' j) (marked_if (eqb j i) (row_at t j)) m.retired (λ k l. m.rows k) (m.rows j).site (m.rows j).sequence
            (m.rows j).mark (λ k l. (m.rows j).refers_to k (omega (arith, f.held.fits)))
            ∙ rule_aside t i j (marked_if (eqb j i) (row_at t j)) ∙ rule_marks (view_of t) j (row_at t j) (eqb j i) (was j h).parent;
      }

  pub marked_formed : TableForm t'
  marked_formed =
      record {
        size = m.size;
        held = rw m.setup (record {
          lawful = f.held.lawful;
          retired = omega (arith, m.retired, f.held.retired);
          fits = omega (arith, m.count, f.held.fits);
          rows = λ j h. form_row (setup_of t) (view_of t') j (row_formed j (omega (arith, m.count)));
        });
        zeros = zeros;
      }
    where
      zeros : all_zero (drop (row_start (count_of t')) t') ≡ true
      zeros = ap (λ (n : ℕ). all_zero (drop (row_start n) t')) m.count ∙ ap all_zero (m.rest (row_start (count_of t)) (omega arith)) ∙ f.zeros
