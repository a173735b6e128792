-- Bytes of a row are those of the row they read to, and so a table in form is the layout of its own contents: none of its bytes is
-- left to choose. Assumes nothing.
use mathlib.Core.Path.{◌≡◌, sym, ap, ap₂, ◌∙◌, subst}
use mathlib.Core.Bool.{true}
use mathlib.Core.List.{[], ◌∷◌, ◌++◌}
use Prim.Native.Nat.{ℕ, suc, ◌+◌, ◌*◌, ◌^◌, ◌≤◌, ◌<◌}
use native.Mathlib.Omega.{arith}
use lib.ListN.{length, get_or, take, drop, length-drop, take-append-drop, drop_of_length-le}
use lib.Seq.{drop-drop, drop-cons, length-take-le}
use Rattle.base.specs.Bytes.{Bytes, AllBytes, part_at, concat}
use Rattle.base.specs.Mask.{mask_below, in_mask}
use Rattle.base.specs.Number.{pair}
use Rattle.base.specs.LowFirst.{word_size, low_first, low_first_bytes}
use Rattle.base.proofs.Bytes.{bytes_take, bytes_drop}
use Rattle.base.proofs.List.{list_same}
use Rattle.base.proofs.Sets.{mask_members}
use Rattle.base.proofs.Parts.{part_and_rest, parts_list, concat_parts}
use Rattle.base.proofs.Number.{part_of_number}
use Rattle.base.proofs.LowFirst.{low_first_below, bytes_of_low_first}
use Rattle.setup.specs.Setup.{slot_count}
use Rattle.block.specs.Limits.{reference_size}
use Rattle.table.specs.View.{max_places}
use Rattle.table.specs.Layout.{site_offset, sequence_offset, references_offset, requests_offset, mark_offset, row_size, row_start}
use Rattle.table.specs.Layout.{setup_of, row_at, view_of, row_bytes, layout}
use Rattle.table.specs.Form.{in_form}
use Rattle.table.proofs.InForm.{table_form}
use Rattle.table.proofs.Canonical.{canonical_laid}
use Rattle.table.proofs.RowBytes.{row_in, row_part, row_in_lem, request_pair, request_pairs, reference_mask, requests_on, after_digest, row_bytes_same}

-- ---- bytes of a row

module _ (b : Bytes) (whole : length b ≡ row_size) (all : AllBytes b) where
  abbrev references : Bytes
  references = take word_size (drop references_offset b)

  references_length : length references ≡ word_size
  references_length = length-take-le word_size (drop references_offset b) (omega (arith, length-drop references_offset b))

  references_bytes : AllBytes references
  references_bytes = bytes_take word_size (drop references_offset b) (bytes_drop references_offset b all)

  references_below : low_first references < 2 ^ max_places
  references_below = subst (λ (n : ℕ). low_first references < 2 ^ (8 * n)) references_length (low_first_below references references_bytes)

  references_back : low_first_bytes word_size (mask_below (in_mask (low_first references)) max_places) ≡ references
  references_back =
      ap₂ low_first_bytes (sym references_length) (mask_members max_places (low_first references) references_below) ∙ bytes_of_low_first references references_bytes

  -- the pair of a slot, from its number
  pair_back : (slot : ℕ) → slot < slot_count → pair ((row_in b).request slot) ≡ part_at 2 (drop requests_offset b) slot
  pair_back slot h =
      part_of_number b (requests_offset + 2 * slot) (omega arith) (all (requests_offset + 2 * slot + 1))
      ∙ ap (take 2) (sym (drop-drop (2 * slot) requests_offset b))

  requests_back : concat (request_pairs (row_in b)) ≡ take (2 * slot_count) (drop requests_offset b)
  requests_back =
      ap concat (list_same (request_pair (row_in b)) (part_at 2 (drop requests_offset b)) slot_count pair_back ∙ sym (parts_list slot_count 2 (drop requests_offset b)))
      ∙ concat_parts slot_count 2 (drop requests_offset b)

  mark_back : (row_in b).mark ∷ [] ≡ drop mark_offset b
  mark_back = sym (drop-cons b mark_offset 0 (omega arith) ∙ ap (λ (x : Bytes). get_or b mark_offset 0 ∷ x) (drop_of_length-le b {i = row_size} (omega arith)))

  -- from the last field to the first
  requests_on_back : requests_on (row_in b) ≡ drop requests_offset b
  requests_on_back = ap₂ ◌++◌ requests_back mark_back ∙ part_and_rest b requests_offset (2 * slot_count)

  references_on_back : reference_mask (row_in b) ++ requests_on (row_in b) ≡ drop references_offset b
  references_on_back = ap₂ ◌++◌ references_back requests_on_back ∙ part_and_rest b references_offset word_size

  sequence_on_back : pair (row_in b).sequence ++ (reference_mask (row_in b) ++ requests_on (row_in b)) ≡ drop sequence_offset b
  sequence_on_back =
      ap₂ ◌++◌ (part_of_number b sequence_offset (omega arith) (all (sequence_offset + 1))) references_on_back ∙ part_and_rest b sequence_offset 2

  after_digest_back : after_digest (row_in b) ≡ drop site_offset b
  after_digest_back = ap (λ (x : Bytes). get_or b site_offset 0 ∷ x) sequence_on_back ∙ sym (drop-cons b site_offset 0 (omega arith))

  pub bytes_back : row_bytes (row_in b) ≡ b
  unfolding row_bytes
  bytes_back = ap (λ (x : Bytes). take reference_size b ++ x) after_digest_back ∙ take-append-drop reference_size b

-- ---- a table's rows

module _ (t : Bytes) (all : AllBytes t) where
  pub row_laid : (i : ℕ) → row_start (suc i) ≤ length t → row_bytes (row_at t i) ≡ row_part t i
  row_laid i h =
      row_bytes_same (row_at t i) (row_in (row_part t i)) (row_in_lem t i)
      ∙ bytes_back (row_part t i) (length-take-le row_size (drop (row_start i) t) (omega (arith, length-drop (row_start i) t)))
      (bytes_take row_size (drop (row_start i) t) (bytes_drop (row_start i) t all))

pub laid : (t : Bytes) → AllBytes t → in_form t ≡ true → t ≡ layout (setup_of t) (view_of t)
laid t all e = let f = table_form t e in canonical_laid t f (λ i h. row_laid t all i (omega (arith, f.size, f.held.fits)))
