-- A row is read from its own 60 bytes, the bytes of a row read to that row, rows that show the same have the same bytes, and a mask put into
-- a row's bytes changes its references alone. Assumes nothing.
use mathlib.Core.Path.{◌≡◌, refl, sym, ap, ap₂, ◌∙◌, subst}
use mathlib.Core.Bool.{Bool}
use mathlib.Core.List.{List, [], ◌∷◌, ◌++◌, append_assoc}
use Prim.Native.Nat.{ℕ, ◌+◌, ◌*◌, ◌<◌}
use native.Mathlib.Nat.{add_assoc}
use native.Mathlib.Omega.{arith}
use lib.ListN.{length, get_or, take, drop, length-append}
use lib.Seq.{take_at, drop_at, drop-drop, take-take, get_or_at, get_or-take, get_or-drop, drop-append-add, get_or-append-add}
use Rattle.base.specs.Bytes.{Bytes, part_at, parts, concat, splice}
use Rattle.base.specs.List.{list_below}
use Rattle.base.specs.Mask.{mask_below, in_mask}
use Rattle.base.specs.Number.{number, number_at, pair}
use Rattle.base.specs.LowFirst.{word_size, low_first, low_first_bytes}
use Rattle.base.proofs.List.{length_list, list_at, list_same}
use Rattle.base.proofs.Mask.{mask_below_lem}
use Rattle.base.proofs.Sets.{mask_has, mask_same}
use Rattle.base.proofs.Parts.{part_of_front, EachSize, parts_at, parts_joined, length_joined_list}
use Rattle.base.proofs.Number.{number_pair, number_of_part}
use Rattle.base.proofs.LowFirst.{length_low_first, low_first_of_bytes}
use Rattle.setup.specs.Setup.{slot_count}
use Rattle.block.specs.Limits.{reference_size}
use Rattle.table.specs.View.{max_places, Row, SameRow}
use Rattle.table.specs.Layout.{site_offset, sequence_offset, references_offset, requests_offset, mark_offset, row_size, row_start, row_at, row_bytes}
use Rattle.table.proofs.Views.{row_sym, row_trans}

-- ---- a row is read from its own bytes

abbrev pub row_in : Bytes → Row
row_in b =
    record {
      digest = take reference_size b;
      site = get_or b site_offset 0;
      sequence = number_at b sequence_offset;
      refers_to = in_mask (low_first (take word_size (drop references_offset b)));
      request = λ slot. number_at b (requests_offset + 2 * slot);
      mark = get_or b mark_offset 0;
    }

-- the bytes of place i
abbrev pub row_part : Bytes → ℕ → Bytes
row_part t i = take row_size (drop (row_start i) t)

byte_in : (t : Bytes) (i j : ℕ) → j < row_size → get_or t (row_start i + j) 0 ≡ get_or (row_part t i) j 0
byte_in t i j h = sym (get_or-take row_size (drop (row_start i) t) j 0 h ∙ get_or-drop (row_start i) t j 0)

number_in : (t : Bytes) (i j : ℕ) → j + 1 < row_size → number_at t (row_start i + j) ≡ number_at (row_part t i) j
number_in t i j h =
    ap₂ number (byte_in t i j (omega arith)) (ap (λ (n : ℕ). get_or t n 0) (add_assoc (row_start i) j 1) ∙ byte_in t i (j + 1) h)

pub row_in_lem : (t : Bytes) (i : ℕ) → SameRow (row_at t i) (row_in (row_part t i))
row_in_lem t i =
    record {
      digest = sym (take-take reference_size row_size (drop (row_start i) t) (omega arith));
      site = byte_in t i site_offset (omega arith);
      sequence = number_in t i sequence_offset (omega arith);
      refers_to = λ j h. ap (λ (b : Bytes). in_mask (low_first b) j) references;
      request = λ slot h. ap (number_at t) (add_assoc (row_start i) requests_offset (2 * slot)) ∙ number_in t i (requests_offset + 2 * slot) (omega arith);
      mark = byte_in t i mark_offset (omega arith);
    }
  where
    references : take word_size (drop (row_start i + references_offset) t) ≡ take word_size (drop references_offset (row_part t i))
    references =
        ap (take word_size) (sym (drop-drop references_offset (row_start i) t))
        ∙ sym (part_of_front references_offset word_size row_size (drop (row_start i) t) (omega arith))

-- places of equal bytes show the same
pub part_same : (t u : Bytes) (i : ℕ) → row_part t i ≡ row_part u i → SameRow (row_at t i) (row_at u i)
part_same t u i e =
    row_trans (row_at t i) (row_in (row_part t i)) (row_at u i) (row_in_lem t i)
    (subst (λ (b : Bytes). SameRow (row_in b) (row_at u i)) (sym e) (row_sym (row_at u i) (row_in (row_part u i)) (row_in_lem u i)))

-- ---- the bytes of a row read to that row

-- the bytes of a slot's request, and those of all slots

abbrev pub request_pair : Row → ℕ → Bytes
request_pair r slot = pair (r.request slot)

abbrev pub request_pairs : Row → List Bytes
request_pairs r = list_below (request_pair r) slot_count

pair_size : (r : Row) → EachSize 2 (request_pairs r)
pair_size r i h = ap length (list_at (request_pair r) slot_count i [] (omega (arith, length_list (request_pair r) slot_count)))

pairs_length : (r : Row) → length (concat (request_pairs r)) ≡ 2 * slot_count
pairs_length r = length_joined_list 2 (request_pair r) slot_count (λ slot. refl)

-- the bytes of the references
abbrev pub reference_mask : Row → Bytes
reference_mask r = low_first_bytes word_size (mask_below r.refers_to max_places)

-- what stands from the requests on
abbrev pub requests_on : Row → Bytes
requests_on r = concat (request_pairs r) ++ (r.mark ∷ [])

-- what stands after the digest
abbrev pub after_digest : Row → Bytes
after_digest r = r.site ∷ (pair r.sequence ++ (reference_mask r ++ requests_on r))

-- the row that refers to the places which pass the test instead
abbrev pub referring : Row → (ℕ → Bool) → Row
referring r test =
    record { digest = r.digest; site = r.site; sequence = r.sequence; refers_to = test; request = r.request; mark = r.mark }

module _ (r : Row) (whole : length r.digest ≡ reference_size) where
  pub length_row : length (row_bytes r) ≡ row_size
  unfolding row_bytes
  length_row =
      let e = length-append (reference_mask r) (requests_on r) in
      let f = length-append (concat (request_pairs r)) (r.mark ∷ []) in
      length-append r.digest (after_digest r) ∙ omega (arith, length_low_first word_size (mask_below r.refers_to max_places), pairs_length r)

  after_at : (i : ℕ) → get_or (row_bytes r) (reference_size + i) 0 ≡ get_or (after_digest r) i 0
  unfolding row_bytes
  after_at i = ap (λ (n : ℕ). get_or (r.digest ++ after_digest r) (n + i) 0) (sym whole) ∙ get_or-append-add r.digest (after_digest r) i 0

  references_on : drop references_offset (row_bytes r) ≡ reference_mask r ++ requests_on r
  unfolding row_bytes
  references_on = ap (λ (n : ℕ). drop (n + 3) (r.digest ++ after_digest r)) (sym whole) ∙ drop-append-add r.digest (after_digest r) 3

  requests_on_lem : drop requests_offset (row_bytes r) ≡ requests_on r
  requests_on_lem =
      sym (drop-drop word_size references_offset (row_bytes r)) ∙ ap (drop word_size) references_on
      ∙ drop_at (reference_mask r) (requests_on r) word_size (length_low_first word_size (mask_below r.refers_to max_places))

  on_request : (i : ℕ) → get_or (row_bytes r) (requests_offset + i) 0 ≡ get_or (requests_on r) i 0
  on_request i = sym (get_or-drop requests_offset (row_bytes r) i 0) ∙ ap (λ (b : Bytes). get_or b i 0) requests_on_lem

  references_there : low_first (take word_size (drop references_offset (row_bytes r))) ≡ mask_below r.refers_to max_places
  references_there =
      ap (λ (b : Bytes). low_first (take word_size b)) references_on
      ∙ ap low_first (take_at (reference_mask r) (requests_on r) word_size (length_low_first word_size (mask_below r.refers_to max_places)))
      ∙ low_first_of_bytes word_size (mask_below r.refers_to max_places) (mask_below_lem r.refers_to max_places)

  -- the pair of a slot, among those joined
  pair_there : (slot : ℕ) → slot < slot_count → part_at 2 (requests_on r) slot ≡ request_pair r slot
  pair_there slot h =
      sym (parts_at slot_count 2 (requests_on r) slot h)
      ∙ ap (λ (n : ℕ). get_or (parts n 2 (requests_on r)) slot []) (sym (length_list (request_pair r) slot_count))
      ∙ ap (λ (x : List Bytes). get_or x slot []) (parts_joined 2 (request_pairs r) (r.mark ∷ []) (pair_size r))
      ∙ list_at (request_pair r) slot_count slot [] h

  request_there_lem : (slot : ℕ) → slot < slot_count → number_at (row_bytes r) (requests_offset + 2 * slot) ≡ r.request slot
  request_there_lem slot h =
      number_of_part (row_bytes r) (requests_offset + 2 * slot) (r.request slot)
      (ap (take 2) (sym (drop-drop (2 * slot) requests_offset (row_bytes r)) ∙ ap (drop (2 * slot)) requests_on_lem) ∙ pair_there slot h)

  pub row_back : SameRow (row_in (row_bytes r)) r
  unfolding row_bytes
  row_back =
      record {
        digest = take_at r.digest (after_digest r) reference_size whole;
        site = after_at 0;
        sequence = ap₂ number (after_at 1) (after_at 2) ∙ number_pair r.sequence;
        refers_to = λ j h. ap (λ (m : ℕ). in_mask m j) references_there ∙ mask_has r.refers_to max_places j h;
        request = request_there_lem;
        mark = on_request (2 * slot_count) ∙ get_or_at (concat (request_pairs r)) r.mark [] 0 (2 * slot_count) (pairs_length r);
      }

  -- ---- other references

  -- what stands before the references
  abbrev front : Bytes
  front = r.digest ++ (r.site ∷ pair r.sequence)

  cut : (test : ℕ → Bool) → row_bytes (referring r test) ≡ front ++ (reference_mask (referring r test) ++ requests_on r)
  unfolding row_bytes
  cut test = sym (append_assoc r.digest (r.site ∷ pair r.sequence) (reference_mask (referring r test) ++ requests_on r))

  front_there : take references_offset (row_bytes r) ≡ front
  front_there =
      ap (take references_offset) (cut r.refers_to)
      ∙ take_at front (reference_mask r ++ requests_on r) references_offset (length-append r.digest (r.site ∷ pair r.sequence) ∙ omega arith)

  pub references_put : (test : ℕ → Bool) → splice (row_bytes r) references_offset (low_first_bytes word_size (mask_below test max_places)) ≡ row_bytes (referring r test)
  unfolding splice
  references_put test =
      let mask : Bytes = low_first_bytes word_size (mask_below test max_places) in
      ap₂ (λ (x y : Bytes). x ++ (mask ++ y)) front_there
      (ap (λ (n : ℕ). drop (references_offset + n) (row_bytes r)) (length_low_first word_size (mask_below test max_places)) ∙ requests_on_lem)
      ∙ sym (cut test)

-- rows that show the same have the same bytes
pub row_bytes_same : (r q : Row) → SameRow r q → row_bytes r ≡ row_bytes q
unfolding row_bytes
row_bytes_same r q e =
    ap₂ ◌++◌ e.digest (ap₂ ◌∷◌ e.site (ap₂ (λ (x : ℕ) (y : Bytes). pair x ++ y) e.sequence
    (ap₂ (λ (m : ℕ) (y : Bytes). low_first_bytes word_size m ++ y) (mask_same r.refers_to q.refers_to max_places e.refers_to)
    (ap₂ (λ (x : List Bytes) (m : ℕ). concat x ++ (m ∷ [])) (list_same (request_pair r) (request_pair q) slot_count (λ slot h. ap pair (e.request slot h))) e.mark))))
