-- A place's part and its eight records, and the parts of a buffer after one was written. Assumes nothing.
use mathlib.Core.Path.{◌≡◌, sym, ap, ◌∙◌}
use mathlib.Core.Logic.{◌≢◌}
use mathlib.Core.List.{List, [], append-nil}
use Prim.Native.Nat.{ℕ, ◌+◌, ◌-◌, ◌*◌, ◌≤◌, ◌<◌}
use native.Mathlib.Omega.{arith}
use lib.Dec.{ltb}
use lib.ListN.{length, get_or, take, drop}
use lib.Seq.{drop-drop, get_or-take, get_or-drop}
use borrow.Author.Tests.{ltb-true, ltb-false}
use Rattle.base.specs.Bytes.{part_at, parts, concat, splice}
use Rattle.base.specs.List.{list_below}
use Rattle.base.proofs.Tests.{by_test}
use Rattle.base.proofs.List.{length_list, list_at}
use Rattle.base.proofs.Parts.{part_of_front, EachSize, length_joined, concat_list_more, parts_at, parts_joined}
use Rattle.base.proofs.Splice.{splice_part_low, splice_part_in, take_splice, drop_splice}
use Rattle.setup.specs.Setup.{slot_count}
use Rattle.broadcast.specs.declared.SlotRecord.{SlotRecord}
use Rattle.broadcast.proofs.Steps.{Sized}
use Rattle.records.specs.Layout.{record_size, flatten, record_at, part_size, part_start, part_of, record_in, numbers_of}
use Rattle.records.proofs.RecordNumbers.{record_from, flatten_length, record_flatten}

-- ---- eight records in a row

module _ (records : ℕ → SlotRecord) (s : (slot : ℕ) → slot < slot_count → Sized (records slot)) where
  abbrev flat : ℕ → List ℕ
  flat slot = flatten (records slot)

  flat_size : EachSize record_size (list_below flat slot_count)
  flat_size i h =
      let l : i < slot_count = omega (arith, length_list flat slot_count) in
      ap length (list_at flat slot_count i [] l) ∙ flatten_length (records i) (s i l)

  pub numbers_length : length (numbers_of records) ≡ part_size
  unfolding numbers_of
  numbers_length = length_joined record_size (list_below flat slot_count) flat_size ∙ ap (λ (n : ℕ). record_size * n) (length_list flat slot_count)

  -- the numbers of a slot
  pub numbers_part : (slot : ℕ) → slot < slot_count → part_at record_size (numbers_of records) slot ≡ flat slot
  unfolding numbers_of
  numbers_part slot h =
      sym (parts_at slot_count record_size (concat (list_below flat slot_count)) slot h)
      ∙ ap (λ (n : ℕ). get_or (parts n record_size (concat (list_below flat slot_count))) slot []) (sym (length_list flat slot_count))
      ∙ ap (λ (l : List ℕ). get_or (parts (length (list_below flat slot_count)) record_size l) slot []) (sym (append-nil (concat (list_below flat slot_count))))
      ∙ ap (λ (x : List (List ℕ)). get_or x slot []) (parts_joined record_size (list_below flat slot_count) [] flat_size)
      ∙ list_at flat slot_count slot [] h

  -- entry k of a slot
  pub entry_in_lem : (slot k : ℕ) → slot < slot_count → k < record_size → get_or (numbers_of records) (record_size * slot + k) 0 ≡ get_or (flatten (records slot)) k 0
  entry_in_lem slot k h l =
      sym (get_or-take record_size (drop (record_size * slot) (numbers_of records)) k 0 l ∙ get_or-drop (record_size * slot) (numbers_of records) k 0)
      ∙ ap (λ (x : List ℕ). get_or x k 0) (numbers_part slot h)

  -- a part that has these numbers has these records
  pub record_in_lem : (buffer : List ℕ) (i slot : ℕ) → slot < slot_count → part_of buffer i ≡ numbers_of records → record_in buffer i slot ≡ records slot
  record_in_lem buffer i slot h e =
      record_from buffer (part_start i + record_size * slot)
      ∙ ap (λ (l : List ℕ). record_at l 0) (its ∙ ap (λ (l : List ℕ). part_at record_size l slot) e ∙ numbers_part slot h)
      ∙ record_flatten (records slot) (s slot h)
    where
      its : take record_size (drop (part_start i + record_size * slot) buffer) ≡ part_at record_size (part_of buffer i) slot
      its =
          ap (take record_size) (sym (drop-drop (record_size * slot) (part_start i) buffer))
          ∙ sym (part_of_front (record_size * slot) record_size part_size (drop (part_start i) buffer) (omega arith))

-- one record more, put behind those of the slots below k
pub put_more : (f : ℕ → List ℕ) (out out' x : List ℕ) (k : ℕ) → record_size * k ≤ length out → take (record_size * k) out ≡ concat (list_below f k)
    → x ≡ f k → length x ≡ record_size → out' ≡ splice out (record_size * k) x → take (record_size * (k + 1)) out' ≡ concat (list_below f (k + 1))
put_more f out out' x k h p e l q =
    let n : record_size * (k + 1) ≡ record_size * k + length x = omega arith in
    rw (n, q, take_splice out (record_size * k) x h, p, e, concat_list_more f k)

-- ---- the buffer after a part was written

module _ (buffer new : List ℕ) (i : ℕ) (size : length new ≡ part_size) (fits : part_start i + part_size ≤ length buffer) where
  within : part_start i ≤ length buffer
  within = omega arith

  pub part_written : part_of (splice buffer (part_start i) new) i ≡ new
  part_written =
      ap (λ (n : ℕ). take n (drop (part_start i) (splice buffer (part_start i) new))) (sym size) ∙ splice_part_in buffer (part_start i) new within

  pub part_other : (j : ℕ) → j ≢ i → part_of (splice buffer (part_start i) new) j ≡ part_of buffer j
  part_other j n = by_test (ltb j i)
      (λ b. splice_part_low buffer (part_start i) new within (part_start j) part_size (omega (arith, ltb-true j i b)))
      (λ b. let e : part_start j ≡ part_start i + length new + (part_start j - (part_start i + part_size)) = omega (arith, ltb-false j i b) in
      ap (take part_size) (ap (λ (k : ℕ). drop k (splice buffer (part_start i) new)) e
      ∙ drop_splice buffer (part_start i) new within (part_start j - (part_start i + part_size)) ∙ ap (λ (k : ℕ). drop k buffer) (sym e)))
