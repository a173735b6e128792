-- What the code's steps make, one law each: a row written field by field, the row of another table written with other references, and the count
-- behind it. Assumes nothing.
use mathlib.Core.Path.{◌≡◌, refl, sym, ap, ap₂, ◌∙◌}
use mathlib.Core.List.{[], ◌∷◌, ◌++◌, append_assoc}
use Prim.Native.Nat.{ℕ, ◌+◌, ◌*◌, ◌^◌, ◌≤◌, ◌<◌}
use native.Mathlib.Omega.{arith}
use lib.ListN.{length, take, drop, length-append, length-drop}
use lib.Seq.{length-take-le}
use Rattle.base.specs.Bytes.{Bytes, AllBytes, splice}
use Rattle.base.specs.Mask.{in_mask}
use Rattle.base.specs.Number.{pair}
use Rattle.base.specs.LowFirst.{word_size, low_first_bytes}
use Rattle.base.proofs.Sets.{mask_members}
use Rattle.base.proofs.Parts.{length_joined_list}
use Rattle.base.proofs.Splice.{stored_behind}
use Rattle.base.proofs.LowFirst.{length_low_first}
use Rattle.setup.specs.Setup.{slot_count}
use Rattle.block.specs.Limits.{reference_size}
use Rattle.block.specs.Layout.{requests_in, counted_request}
use Rattle.table.specs.View.{max_places, Row}
use Rattle.table.specs.Layout.{table_size, count_offset, site_offset, sequence_offset, references_offset, requests_offset, mark_offset, row_size, row_start, count_of, row_at, row_bytes, with_row}
use Rattle.table.specs.Steps.{row_with, counted_request_bytes, new_row, with_references}
use Rattle.table.proofs.RowBytes.{row_part, references_put}
use Rattle.table.proofs.TableLayout.{row_laid}

-- ---- a row written field by field

module _ (t : Bytes) (at : ℕ) (d : Bytes) (site sequence references : ℕ) (requests : Bytes)
    (fits : at + row_size ≤ length t) (whole : length d ≡ reference_size) (wide : references < 2 ^ max_places) where
  abbrev front : Bytes
  front = d ++ (site ∷ [])

  abbrev mask : Bytes
  mask = low_first_bytes word_size references

  requests_length : length (counted_request_bytes requests) ≡ 2 * slot_count
  requests_length = length_joined_list 2 (λ slot. pair (counted_request (requests_in requests) slot)) slot_count (λ i. refl)

  -- the bytes of the row, in its order
  row : (((front ++ pair sequence) ++ mask) ++ counted_request_bytes requests) ++ (0 ∷ []) ≡ row_bytes (new_row d site sequence references requests)
  unfolding row_bytes
  row =
      let flat : (((front ++ pair sequence) ++ mask) ++ counted_request_bytes requests) ++ (0 ∷ []) ≡ d ++ ((site ∷ pair sequence) ++ (mask ++ (counted_request_bytes requests ++ (0 ∷ [])))) = simp append_assoc in
      flat ∙ ap (λ (m : ℕ). d ++ ((site ∷ pair sequence) ++ (low_first_bytes word_size m ++ (counted_request_bytes requests ++ (0 ∷ []))))) (sym (mask_members max_places references wide))

  pub row_written_lem : (t₁ t₂ t₃ t₄ t₅ t₆ p w : Bytes) → t₁ ≡ splice t at d → t₂ ≡ splice t₁ (at + site_offset) (site ∷ []) → p ≡ pair sequence → t₃ ≡ splice t₂ (at + sequence_offset) p
      → w ≡ mask → t₄ ≡ splice t₃ (at + references_offset) w
      → t₅ ≡ splice t₄ (at + requests_offset) (counted_request_bytes requests) → t₆ ≡ splice t₅ (at + mark_offset) (0 ∷ [])
      → t₆ ≡ splice t at (row_bytes (new_row d site sequence references requests))
  row_written_lem t₁ t₂ t₃ t₄ t₅ t₆ p w e₁ e₂ ep e₃ ew e₄ e₅ e₆ =
      let h : at ≤ length t = omega arith in
      let l₂ : length front ≡ sequence_offset = length-append d (site ∷ []) ∙ omega arith in
      let l₃ : length (front ++ pair sequence) ≡ references_offset = length-append front (pair sequence) ∙ omega arith in
      let l₄ : length ((front ++ pair sequence) ++ mask) ≡ requests_offset = length-append (front ++ pair sequence) mask ∙ omega (arith, length_low_first word_size references) in
      let l₅ : length (((front ++ pair sequence) ++ mask) ++ counted_request_bytes requests) ≡ mark_offset = length-append ((front ++ pair sequence) ++ mask) (counted_request_bytes requests) ∙ omega (arith, requests_length) in
      let f₂ = stored_behind t t₁ t₂ d (site ∷ []) at (at + site_offset) h e₁ (omega arith) e₂ in
      let f₃ = stored_behind t t₂ t₃ front (pair sequence) at (at + sequence_offset) h f₂ (omega arith) (e₃ ∙ ap (splice t₂ (at + sequence_offset)) ep) in
      let f₄ = stored_behind t t₃ t₄ (front ++ pair sequence) mask at (at + references_offset) h f₃ (omega arith) (e₄ ∙ ap (splice t₃ (at + references_offset)) ew) in
      let f₅ = stored_behind t t₄ t₅ ((front ++ pair sequence) ++ mask) (counted_request_bytes requests) at (at + requests_offset) h f₄ (omega arith) e₅ in
      let f₆ = stored_behind t t₅ t₆ (((front ++ pair sequence) ++ mask) ++ counted_request_bytes requests) (0 ∷ []) at (at + mark_offset) h f₅ (omega arith) e₆ in
      f₆ ∙ ap (splice t at) row

-- ---- the row of another table

pub carried_written : (t t₁ t₂ t₃ row front mask rest : Bytes) (at references : ℕ) → at ≤ length t → length row ≡ row_size
    → front ≡ take references_offset row → t₁ ≡ splice t at front
    → mask ≡ low_first_bytes word_size references → t₂ ≡ splice t₁ (at + references_offset) mask
    → rest ≡ drop requests_offset row → t₃ ≡ splice t₂ (at + requests_offset) rest
    → t₃ ≡ splice t at (with_references row references)
carried_written t t₁ t₂ t₃ row front mask rest at references h size ef e₁ em e₂ er e₃ =
    let a : Bytes = take references_offset row in
    let m : Bytes = low_first_bytes word_size references in
    let la : length a ≡ references_offset = length-take-le references_offset row (omega arith) in
    let lm : length (a ++ m) ≡ requests_offset = length-append a m ∙ omega (arith, length_low_first word_size references) in
    let f₂ = stored_behind t t₁ t₂ a m at (at + references_offset) h (e₁ ∙ ap (splice t at) ef) (omega arith) (e₂ ∙ ap (splice t₁ (at + references_offset)) em) in
    stored_behind t t₂ t₃ (a ++ m) (drop requests_offset row) at (at + requests_offset) h f₂ (omega arith) (e₃ ∙ ap (splice t₂ (at + requests_offset)) er)
    ∙ ap (splice t at) (append_assoc a m (drop requests_offset row))

module _ (other : Bytes) (j : ℕ) (all : AllBytes other) (size : length other ≡ table_size) (place : j < max_places) (references : ℕ) (wide : references < 2 ^ max_places) where
  digest_whole : length (row_at other j).digest ≡ reference_size
  digest_whole = length-take-le reference_size (drop (row_start j) other) (omega (arith, length-drop (row_start j) other, size, place))

  -- the mask put into the row's bytes
  put_is : (b : Bytes) → with_references b references ≡ splice b references_offset (low_first_bytes word_size references)
  unfolding splice
  put_is b = ap (λ (n : ℕ). take references_offset b ++ (low_first_bytes word_size references ++ drop (references_offset + n) b)) (sym (length_low_first word_size references))

  pub carried_bytes : with_references (row_part other j) references ≡ row_bytes (row_with other j references)
  carried_bytes =
      put_is (row_part other j)
      ∙ ap₂ (λ (b : Bytes) (m : ℕ). splice b references_offset (low_first_bytes word_size m)) (sym (row_laid other all j (omega (arith, size, place))))
      (sym (mask_members max_places references wide))
      ∙ references_put (row_at other j) digest_whole (in_mask references)

-- ---- a row, then the count

pub row_counted : (t t₁ t₂ : Bytes) (k : ℕ) (r : Row) → k ≡ count_of t → t₁ ≡ splice t (row_start k) (row_bytes r) → t₂ ≡ splice t₁ count_offset ((k + 1) ∷ []) → t₂ ≡ with_row t r
unfolding with_row
row_counted t t₁ t₂ k r e e₁ e₂ =
    e₂ ∙ ap (λ (b : Bytes). splice b count_offset ((k + 1) ∷ [])) e₁
    ∙ ap (λ (n : ℕ). splice (splice t (row_start n) (row_bytes r)) count_offset ((n + 1) ∷ [])) e
