-- What the code's steps make of a table whose rows move down by one, one law each. Assumes nothing.
use mathlib.Core.Path.{◌≡◌, sym, ap, ap₂, ◌∙◌}
use mathlib.Core.Bool.{Bool, ◌&&◌}
use mathlib.Core.List.{[], ◌∷◌, ◌++◌, append-nil}
use Prim.Native.Nat.{ℕ, suc, ◌+◌, ◌-◌, ◌*◌, ◌/◌, ◌%◌, ◌^◌, ◌<◌}
use native.Mathlib.Numerals.{add-one}
use native.Mathlib.Omega.{arith}
use native.Mathlib.Nat.{div-eq_of_lt}
use lib.Dec.{eqb, ltb}
use lib.Pow.{pow_mono}
use lib.ListN.{length, take, drop, replicate, length-replicate, take-append-drop}
use lib.Seq.{drop-length}
use borrow.Author.Tests.{ltb-true, ltb-false}
use Rattle.base.specs.Mask.{mask_below, bit_at, in_mask}
use Rattle.base.specs.List.{list_below}
use Rattle.base.specs.Bytes.{Bytes, concat, splice}
use Rattle.base.specs.LowFirst.{word_size, low_first_bytes}
use Rattle.base.proofs.Tests.{by_test}
use Rattle.base.proofs.Mask.{bit_suc}
use Rattle.base.proofs.Sets.{mask_members, mask_same}
use Rattle.base.proofs.Parts.{concat_list_more}
use Rattle.base.proofs.Splice.{drop_splice, splice_append, splice_before}
use Rattle.table.specs.View.{max_places}
use Rattle.table.specs.Layout.{retired_offset, rows_offset, references_offset, row_size, row_start, table_size, count_of, references_at, row_at}
use Rattle.table.specs.Writing.{moved_row, moved_bytes, moved_rows, move_down}
use Rattle.table.proofs.RowBytes.{row_part, part_same}
use Rattle.table.proofs.LoweredRows.{rows_length}

-- ---- a row

-- equal rows move to equal bytes
moved_same : (t u : Bytes) (i : ℕ) → row_part t i ≡ row_part u i → moved_bytes t i ≡ moved_bytes u i
unfolding moved_bytes
moved_same t u i e =
    ap₂ (λ (b : Bytes) (m : ℕ). splice b references_offset (low_first_bytes word_size m)) e
    (mask_same (moved_row (row_at t i)).refers_to (moved_row (row_at u i)).refers_to max_places (λ j h. by_test (ltb (suc j) max_places)
    (λ y. ap (λ (x : Bool). ltb (suc j) max_places && x) ((part_same t u i e).refers_to (suc j) (ltb-true (suc j) max_places y)))
    (λ n. rw n)))

-- the mask halved
half : (m : ℕ) → m < 2 ^ max_places → m / 2 ≡ mask_below (λ j. ltb (suc j) max_places && in_mask m (suc j)) max_places
half m h =
    sym (mask_members max_places (m / 2) (omega arith))
    ∙ mask_same (in_mask (m / 2)) (λ j. ltb (suc j) max_places && in_mask m (suc j)) max_places (λ j l. bit j)
  where
    bit : (j : ℕ) → in_mask (m / 2) j ≡ (ltb (suc j) max_places && in_mask m (suc j))
    bit j = ap (λ (x : ℕ). eqb x 1) (sym (bit_suc m j)) ∙ by_test (ltb (suc j) max_places)
        (λ y. rw y)
        (λ n. let z : bit_at m (suc j) ≡ 0 = ap (λ (x : ℕ). x % 2) (div-eq_of_lt (omega (arith, h, pow_mono (ltb-false (suc j) max_places n)))) in rw (n, z))

pub moved_is : (t : Bytes) (i references : ℕ) → references ≡ references_at t i → references < 2 ^ max_places → (part row₁ w row₂ : Bytes) → part ≡ row_part t i → length part ≡ row_size
    → row₁ ≡ splice (replicate row_size 0) 0 part → w ≡ low_first_bytes word_size (references / 2 ^ 1) → row₂ ≡ splice row₁ references_offset w → row₂ ≡ moved_bytes t i
unfolding moved_bytes splice
moved_is t i references e h part row₁ w row₂ p l q u v =
    let n : 0 + length part ≡ length (replicate {A = ℕ} row_size 0) = omega (arith, l, length-replicate {A = ℕ} row_size 0) in
    let first : row₁ ≡ row_part t i =
    q ∙ ap (λ (n : ℕ). part ++ drop n (replicate row_size 0)) n ∙ ap (λ (x : Bytes). part ++ x) (drop-length (replicate row_size 0)) ∙ append-nil part ∙ p in
    let m : references / 2 ^ 1 ≡ mask_below (moved_row (row_at t i)).refers_to max_places =
    half references h ∙ ap (λ (x : ℕ). mask_below (λ j. ltb (suc j) max_places && in_mask x (suc j)) max_places) e in
    v ∙ ap₂ (λ (x y : Bytes). splice x references_offset y) first (u ∙ ap (low_first_bytes word_size) m)

-- ---- the rows

module _ (t : Bytes) (size : length t ≡ table_size) where
  pub rows_turn : (i : ℕ) → i + 1 < max_places → (t₁ t₂ row : Bytes) → t₁ ≡ splice t rows_offset (moved_rows t i) → row ≡ moved_bytes t₁ (i + 1) → t₂ ≡ splice t₁ (row_start i) row
      → t₂ ≡ splice t rows_offset (moved_rows t (i + 1))
  rows_turn i h t₁ t₂ row e q f =
      let n : length (moved_rows t i) ≡ row_size * i = rows_length t size i (omega arith) in
      let at : row_start (i + 1) ≡ rows_offset + length (moved_rows t i) + row_size = omega arith in
      let same : row_part t₁ (i + 1) ≡ row_part t (i + 1) =
      ap (λ (x : Bytes). row_part x (i + 1)) e ∙ ap (λ (m : ℕ). take row_size (drop m (splice t rows_offset (moved_rows t i)))) at
      ∙ ap (take row_size) (drop_splice t rows_offset (moved_rows t i) (omega arith) row_size) ∙ ap (λ (m : ℕ). take row_size (drop m t)) (sym at) in
      let its : row ≡ moved_bytes t (suc i) = q ∙ moved_same t₁ t (i + 1) same ∙ ap (moved_bytes t) (add-one i) in
      let start : row_start i ≡ rows_offset + length (moved_rows t i) = omega arith in
      f ∙ ap₂ (λ (x : Bytes) (y : Bytes). splice x (row_start i) y) e its
      ∙ ap (λ (m : ℕ). splice (splice t rows_offset (moved_rows t i)) m (moved_bytes t (suc i))) start
      ∙ splice_append t rows_offset (moved_rows t i) (omega arith) (moved_bytes t (suc i))
      ∙ ap (splice t rows_offset) (sym (concat_list_more (λ j. moved_bytes t (suc j)) i))

pub none_moved : (t : Bytes) → t ≡ splice t rows_offset (moved_rows t 0)
unfolding splice concat list_below
none_moved t = sym (take-append-drop rows_offset t)

-- ---- the table

pub down_is : (t : Bytes) (left : ℕ) → length t ≡ table_size → count_of t ≡ suc left → left < max_places → (t₁ t₂ t₃ : Bytes) → t₁ ≡ splice t rows_offset (moved_rows t left) → t₂ ≡ splice t₁ (row_start left) (replicate row_size 0)
    → t₃ ≡ splice t₂ retired_offset (1 ∷ (left ∷ [])) → t₃ ≡ move_down t
unfolding move_down
down_is t left size count few t₁ t₂ t₃ e f g =
    let n : length (moved_rows t left) ≡ row_size * left = rows_length t size left few in
    let start : row_start left ≡ rows_offset + length (moved_rows t left) = omega arith in
    let k : left ≡ count_of t - 1 = omega (arith, count) in
    g ∙ ap (λ (x : Bytes). splice x retired_offset (1 ∷ (left ∷ [])))
    (f ∙ ap (λ (x : Bytes). splice x (row_start left) (replicate row_size 0)) e
    ∙ ap (λ (m : ℕ). splice (splice t rows_offset (moved_rows t left)) m (replicate row_size 0)) start
    ∙ splice_append t rows_offset (moved_rows t left) (omega (arith, size)) (replicate row_size 0))
    ∙ splice_before t retired_offset (1 ∷ (left ∷ [])) (moved_rows t left ++ replicate row_size 0) (omega (arith, size))
    ∙ ap (λ (m : ℕ). splice t retired_offset (1 ∷ (m ∷ (moved_rows t m ++ replicate row_size 0)))) k
