-- Tables whose rows stand as the bytes of the rows that they show, here called canonical. A row put at the next place and a mark keep a table
-- canonical, so every table that calls reach is; a canonical table in form is the layout of its contents, and two of them that show the same are
-- equal. Assumes nothing.
use mathlib.Core.Path.{◌≡◌, sym, ap, ap₂, ◌∙◌, subst}
use mathlib.Core.Bool.{Bool, true, false}
use mathlib.Core.Logic.{inl, inr}
use mathlib.Core.List.{[], ◌∷◌, ◌++◌, append_assoc}
use Prim.Native.Nat.{ℕ, suc, ◌+◌, ◌-◌, ◌*◌, ◌≤◌, ◌<◌}
use native.Mathlib.Nat.{eq-or-lt_of_le}
use native.Mathlib.Omega.{arith}
use lib.Dec.{eqb}
use lib.ListN.{length, get_or, take, drop, replicate, length-drop, length-append}
use lib.Seq.{drop-drop, drop-cons, take-add, take_at, take-take, length-take-le}
use borrow.Author.Tests.{eqb-true}
use Rattle.base.specs.Bytes.{Bytes, part_at, concat}
use Rattle.base.specs.List.{list_below}
use Rattle.base.specs.Number.{pair}
use Rattle.base.proofs.Tests.{by_test}
use Rattle.base.proofs.Bytes.{zeros_replicate}
use Rattle.base.proofs.List.{list_same}
use Rattle.base.proofs.Parts.{part_and_rest, parts_list, concat_parts}
use Rattle.base.proofs.Splice.{splice_part_in}
use Rattle.setup.specs.Setup.{Setup, slot_count}
use Rattle.block.specs.Limits.{reference_size}
use Rattle.table.specs.View.{max_places, Row, View, marked_if, SameBelow}
use Rattle.table.specs.Layout.{owners_offset, retired_offset, count_offset, rows_offset, mark_offset, row_size, row_start, table_size, setup_of, retired_of, count_of, row_at, view_of, row_bytes, layout, with_row, with_mark}
use Rattle.table.specs.Form.{in_form}
use Rattle.table.specs.Promises.{Marked}
use Rattle.table.proofs.InForm.{TableForm, table_form}
use Rattle.table.proofs.RowBytes.{row_part, length_row, row_bytes_same, request_pairs, reference_mask}
use Rattle.table.proofs.AddedRow.{part_kept, part_here, grown}
use Rattle.table.proofs.MarkedPlace as mark
use Rattle.table.proofs.MarkedPlace.{marked}

abbrev pub Canonical : Bytes → Type 0
Canonical t = (i : ℕ) → i < count_of t → row_bytes (row_at t i) ≡ row_part t i

-- ---- a row at the next place

module _ (t : Bytes) (r : Row) (size : length t ≡ table_size) (room : count_of t < max_places) (whole : length r.digest ≡ reference_size) where
  pub row_canonical : Canonical t → Canonical (with_row t r)
  row_canonical c i h = let le : i ≤ count_of t = omega (arith, (grown t r size room whole).count) in elim (eq-or-lt_of_le le) [
    | inl q ↦ subst (λ (k : ℕ). row_bytes (row_at (with_row t r) k) ≡ row_part (with_row t r) k) (sym q)
        (row_bytes_same (row_at (with_row t r) (count_of t)) r (grown t r size room whole).here ∙ sym (part_here t r size room whole))
    | inr k ↦ sym (row_bytes_same (row_at t i) (row_at (with_row t r) i) ((grown t r size room whole).below i k)) ∙ c i k ∙ part_kept t r size room whole i k
  ]

-- ---- a mark

-- what stands before the mark
abbrev front : Row → Bytes
front r = r.digest ++ (r.site ∷ (pair r.sequence ++ (reference_mask r ++ concat (request_pairs r))))

front_mark : (r : Row) → row_bytes r ≡ front r ++ (r.mark ∷ [])
unfolding row_bytes
front_mark r =
    sym (append_assoc r.digest (r.site ∷ (pair r.sequence ++ (reference_mask r ++ concat (request_pairs r)))) (r.mark ∷ [])
    ∙ ap (λ (b : Bytes). r.digest ++ (r.site ∷ (pair r.sequence ++ b))) (append_assoc (reference_mask r) (concat (request_pairs r)) (r.mark ∷ [])))

front_length : (r : Row) → length r.digest ≡ reference_size → length (front r) ≡ mark_offset
front_length r whole =
    let e : length (front r ++ (r.mark ∷ [])) ≡ row_size = ap length (sym (front_mark r)) ∙ length_row r whole in
    omega (arith, length-append (front r) (r.mark ∷ []))

module _ (t : Bytes) (i : ℕ) (size : length t ≡ table_size) (low : i < count_of t) (few : count_of t ≤ max_places) (c : Canonical t) where
  is : Marked t (with_mark t i) i
  is = marked t i size (omega arith)

  there : take 1 (drop (row_start i + mark_offset) (with_mark t i)) ≡ 1 ∷ []
  unfolding with_mark
  there = splice_part_in t (row_start i + mark_offset) (1 ∷ []) (omega arith)

  digest_whole : length (row_at t i).digest ≡ reference_size
  digest_whole = length-take-le reference_size (drop (row_start i) t) (omega (arith, length-drop (row_start i) t))

  before : take mark_offset (drop (row_start i) (with_mark t i)) ≡ front (row_at t i)
  before =
      mark.part_kept t i size (omega arith) (row_start i) mark_offset (omega arith)
      ∙ sym (take-take mark_offset row_size (drop (row_start i) t) (omega arith))
      ∙ ap (take mark_offset) (sym (c i low) ∙ front_mark (row_at t i))
      ∙ take_at (front (row_at t i)) ((row_at t i).mark ∷ []) mark_offset (front_length (row_at t i) digest_whole)

  here : row_part (with_mark t i) i ≡ row_bytes (marked_if true (row_at t i))
  here =
      take-add mark_offset 1 (drop (row_start i) (with_mark t i))
      ∙ ap₂ ◌++◌ before (ap (take 1) (drop-drop mark_offset (row_start i) (with_mark t i)) ∙ there)
      ∙ sym (front_mark (marked_if true (row_at t i)))

  row_is : (j : ℕ) (x : Bool) → eqb j i ≡ x → row_bytes (row_at (with_mark t i) j) ≡ row_bytes (marked_if x (row_at t j))
  row_is j x e = row_bytes_same _ _ (is.rows j) ∙ ap (λ (y : Bool). row_bytes (marked_if y (row_at t j))) e

  pub mark_canonical : Canonical (with_mark t i)
  mark_canonical j h = by_test (eqb j i)
      (λ y. row_is j true y ∙ (let q : j ≡ i = eqb-true j i y in rw q (sym here)))
      (λ n. row_is j false n ∙ c j (omega (arith, is.count)) ∙ sym (mark.other t i size (omega arith) j n))

-- ---- a table in form whose rows stand so is the layout of its contents: none of its bytes is left to choose

module _ (t : Bytes) (f : TableForm t) (c : Canonical t) where
  rows_laid : concat (list_below (λ i. row_bytes (row_at t i)) (count_of t)) ≡ take (row_size * count_of t) (drop rows_offset t)
  rows_laid =
      ap concat (list_same (λ i. row_bytes (row_at t i)) (part_at row_size (drop rows_offset t)) (count_of t)
      (λ i l. c i l ∙ ap (take row_size) (sym (drop-drop (row_size * i) rows_offset t)))
      ∙ sym (parts_list (count_of t) row_size (drop rows_offset t)))
      ∙ concat_parts (count_of t) row_size (drop rows_offset t)

  zeros_length : row_size * (max_places - count_of t) ≡ length (drop (row_start (count_of t)) t)
  zeros_length = sym (length-drop (row_start (count_of t)) t ∙ omega (arith, f.size, f.held.fits))

  zeros_back : replicate (row_size * (max_places - count_of t)) 0 ≡ drop (row_start (count_of t)) t
  zeros_back = ap (λ (n : ℕ). replicate n 0) zeros_length ∙ sym (zeros_replicate (drop (row_start (count_of t)) t) f.zeros)

  rows_back : concat (list_below (λ i. row_bytes (row_at t i)) (count_of t)) ++ replicate (row_size * (max_places - count_of t)) 0 ≡ drop rows_offset t
  rows_back = ap₂ ◌++◌ rows_laid zeros_back ∙ part_and_rest t rows_offset (row_size * count_of t)

  -- a byte of the header, and what follows it
  byte_at : (n : ℕ) → n < table_size → drop n t ≡ get_or t n 0 ∷ drop (suc n) t
  byte_at n h = drop-cons t n 0 (omega (arith, f.size))

  pub canonical_laid : t ≡ layout (setup_of t) (view_of t)
  unfolding layout
  canonical_laid =
      drop-cons t 0 0 (omega (arith, f.size)) ∙ ap (λ (b : Bytes). get_or t 0 0 ∷ b)
      (sym (ap (λ (b : Bytes). take slot_count (drop owners_offset t) ++ b)
      (ap (λ (b : Bytes). retired_of t ∷ count_of t ∷ b) rows_back ∙ ap (λ (b : Bytes). retired_of t ∷ b) (sym (byte_at count_offset (omega arith))) ∙ sym (byte_at retired_offset (omega arith)))
      ∙ part_and_rest t owners_offset slot_count))

pub layout_same : (s : Setup) (v w : View) → v.retired ≡ w.retired → v.held ≡ w.held → SameBelow v w v.held → layout s v ≡ layout s w
unfolding layout
layout_same s v w g n e =
    ap (λ (b : Bytes). s.sites ∷ (s.owners ++ (v.retired ∷ v.held ∷ (b ++ replicate (row_size * (max_places - v.held)) 0))))
    (ap concat (list_same (λ i. row_bytes (v.row i)) (λ i. row_bytes (w.row i)) v.held (λ i h. row_bytes_same (v.row i) (w.row i) (e i h))))
    ∙ ap₂ (λ (r k : ℕ). s.sites ∷ (s.owners ++ (r ∷ k ∷ (concat (list_below (λ i. row_bytes (w.row i)) k) ++ replicate (row_size * (max_places - k)) 0)))) g n

pub tables_equal : (t u : Bytes) → in_form t ≡ true → in_form u ≡ true → Canonical t → Canonical u → setup_of t ≡ setup_of u
    → retired_of t ≡ retired_of u → count_of t ≡ count_of u → SameBelow (view_of t) (view_of u) (count_of t) → t ≡ u
tables_equal t u f g c d s r n e =
    canonical_laid t (table_form t f) c
    ∙ ap (λ (z : Setup). layout z (view_of t)) s
    ∙ layout_same (setup_of u) (view_of t) (view_of u) r n e
    ∙ sym (canonical_laid u (table_form u g) d)
