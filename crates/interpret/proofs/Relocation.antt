-- What is written for a place follows from its site, sequence number and requests, and from the site, sequence number and part of each
-- place that it refers to, wherever those stand: it is the same in another table with other places, and another buffer. Assumes nothing.
use mathlib.Core.Path.{◌≡◌, sym, ap, ap₂, ◌∙◌}
use mathlib.Core.Bool.{true, ◌&&◌}
use mathlib.Core.Logic.{inl, inr}
use mathlib.Core.List.Memᴰ
use mathlib.Core.List.{List, Memᴰ}
use Prim.Native.Nat.{ℕ, ◌+◌, ◌*◌, ◌<◌}
use native.Mathlib.Omega.{arith}
use lib.Dec.{eqb}
use lib.ListN.{take, drop}
use lib.Seq.{drop-drop}
use borrow.Author.Tests.{eqb-true}
use Rattle.base.specs.Bytes.{Bytes, part_at, concat}
use Rattle.base.proofs.Tests.{and_right, or_cases}
use Rattle.base.proofs.Count.{count_one}
use Rattle.base.proofs.Parts.{part_of_front}
use Rattle.base.proofs.List.{list_same}
use Rattle.setup.specs.Setup.{Setup, slot_count}
use Rattle.table.specs.View.{max_places, Row, View}
use Rattle.table.specs.Layout.{site_at, sequence_at, row_at, view_of}
use Rattle.table.specs.Rules.{is_parent, parent_row, parents, parent_rule}
use Rattle.records.specs.Layout.{record_size, flatten, record_at, part_size, part_start, part_of, record_in, numbers_of}
use Rattle.records.proofs.RecordNumbers.{record_from}
use Rattle.interpret.specs.Slot.{Direct, interpret_slot}
use Rattle.interpret.specs.Interpretation.{direct_at, directs_below, record_for, written}
use Rattle.interpret.proofs.Order.{interpret_slot_same}
use Rattle.interpret.proofs.Effect.{below_from, below_has}

-- equal parts have equal records
record_of_part : (b c : List ℕ) (i j slot : ℕ) → slot < slot_count → part_of b i ≡ part_of c j → record_in b i slot ≡ record_in c j slot
record_of_part b c i j slot h e =
    record_from b (part_start i + record_size * slot)
    ∙ ap (λ (l : List ℕ). record_at l 0) (its b i ∙ ap (λ (l : List ℕ). part_at record_size l slot) e ∙ sym (its c j))
    ∙ sym (record_from c (part_start j + record_size * slot))
  where
    its : (b : List ℕ) (i : ℕ) → take record_size (drop (part_start i + record_size * slot) b) ≡ part_at record_size (part_of b i) slot
    its b i =
        ap (take record_size) (sym (drop-drop (record_size * slot) (part_start i) b))
        ∙ sym (part_of_front (record_size * slot) record_size part_size (drop (part_start i) b) (omega arith))

-- a place below k that the row refers to, with the site, sequence number and part of place j of the other view
pub record Stands (v w : View) (b c : List ℕ) (j : ℕ) (r : Row) (k : ℕ) : Type 0 where
  pub place : ℕ
  pub below : place < k
  pub refers : r.refers_to place ≡ true
  pub site : (v.row j).site ≡ (w.row place).site
  pub sequence : (v.row j).sequence ≡ (w.row place).sequence
  pub part : part_of b j ≡ part_of c place

module _ (s : Setup) (v w : View) (b c : List ℕ) (i k : ℕ)
    (site : (v.row i).site ≡ (w.row k).site)
    (sequence : (v.row i).sequence ≡ (w.row k).sequence)
    (request : (slot : ℕ) → slot < slot_count → (v.row i).request slot ≡ (w.row k).request slot)
    (there : (j : ℕ) → j < i → (v.row i).refers_to j ≡ true → Stands v w b c j (w.row k) k)
    (back : (j : ℕ) → j < k → (w.row k).refers_to j ≡ true → Stands w v c b j (v.row i) i)
    (rule : parent_rule v i (v.row i) ≡ true) where
  direct_same : (v w : View) (b c : List ℕ) (slot j m : ℕ) → slot < slot_count → (v.row j).site ≡ (w.row m).site → (v.row j).sequence ≡ (w.row m).sequence
      → part_of b j ≡ part_of c m → direct_at v b slot j ≡ direct_at w c slot m
  direct_same v w b c slot j m h p q r = λ z. record { site = p z; sequence = q z; state = record_of_part b c j m slot h r z }

  module _ (slot : ℕ) (h : slot < slot_count) where
    abbrev ds : List Direct
    ds = directs_below v b slot (v.row i) i

    abbrev es : List Direct
    es = directs_below w c slot (w.row k) k

    to : (d : Direct) → Memᴰ d ds → Memᴰ d es
    to d m =
        let u = below_from v b slot (v.row i) i d m in
        let p = there u.0 u.1 u.2 in
        Memᴰ.cast (u.3 ∙ direct_same v w b c slot u.0 p.place h p.site p.sequence p.part) (below_has w c slot (w.row k) k p.place p.below p.refers)

    from : (d : Direct) → Memᴰ d es → Memᴰ d ds
    from d m =
        let u = below_from w c slot (w.row k) k d m in
        let p = back u.0 u.1 u.2 in
        Memᴰ.cast (u.3 ∙ direct_same w v c b slot u.0 p.place h p.site p.sequence p.part) (below_has v b slot (v.row i) i p.place p.below p.refers)

    -- at most one place referred to is a parent
    one_place : (j m : ℕ) → j < i → m < i → (v.row i).refers_to j ≡ true → (v.row i).refers_to m ≡ true → parent_row (v.row i) (v.row j) ≡ true
        → parent_row (v.row i) (v.row m) ≡ true → j ≡ m
    unfolding parent_rule parents
    one_place j m hj hm y z p q = elim (or_cases (eqb (v.row i).sequence 0) _ rule) [
      | inl e ↦ absurd (let n : (v.row j).sequence + 1 ≡ (v.row i).sequence = eqb-true _ _ (and_right (eqb (v.row j).site (v.row i).site) (eqb ((v.row j).sequence + 1) (v.row i).sequence) p) in
          omega (arith, eqb-true (v.row i).sequence 0 e))
      | inr e ↦ count_one (λ j. (v.row i).refers_to j && parent_row (v.row i) (v.row j)) i (eqb-true _ 1 e) j m hj hm (rw (y, p)) (rw (z, q))
    ]

    one : (d e : Direct) → Memᴰ d ds → Memᴰ e ds → is_parent (v.row i).site (v.row i).sequence d.site d.sequence ≡ true
        → is_parent (v.row i).site (v.row i).sequence e.site e.sequence ≡ true → d ≡ e
    one d e m n p q =
        let x = below_from v b slot (v.row i) i d m in
        let y = below_from v b slot (v.row i) i e n in
        x.3 ∙ ap (direct_at v b slot) (one_place x.0 y.0 x.1 y.1 x.2 y.2 (rw x.3 at p) (rw y.3 at q)) ∙ sym y.3

    record_same : record_for s v b i slot ≡ record_for s w c k slot
    unfolding record_for
    record_same =
        interpret_slot_same (v.row i).site (v.row i).sequence ds es to from one s slot ((v.row i).request slot)
        ∙ ap₂ (λ (p q : ℕ). interpret_slot s slot p q ((v.row i).request slot) es) site sequence
        ∙ ap (λ (n : ℕ). interpret_slot s slot (w.row k).site (w.row k).sequence n es) (request slot h)

  pub written_same : written s v b i ≡ written s w c k
  unfolding numbers_of
  written_same = ap concat (list_same (λ slot. flatten (record_for s v b i slot)) (λ slot. flatten (record_for s w c k slot)) slot_count
      (λ slot h. ap flatten (record_same slot h)))

-- what is written is the same in two tables that show the same from a place down, with the same parts where it refers to
pub written_kept : (s : Setup) (t u : Bytes) (b c : List ℕ) (i : ℕ) → i < max_places → parent_rule (view_of t) i (row_at t i) ≡ true
    → (row_at t i).site ≡ (row_at u i).site → (row_at t i).sequence ≡ (row_at u i).sequence
    → ((slot : ℕ) → slot < slot_count → (row_at t i).request slot ≡ (row_at u i).request slot)
    → ((j : ℕ) → j < i → (row_at t i).refers_to j ≡ (row_at u i).refers_to j)
    → ((j : ℕ) → j < i → (row_at t i).refers_to j ≡ true → (site_at t j ≡ site_at u j) × (sequence_at t j ≡ sequence_at u j) × (part_of b j ≡ part_of c j))
    → written s (view_of t) b i ≡ written s (view_of u) c i
written_kept s t u b c i l rule site sequence request refers same =
    written_same s (view_of t) (view_of u) b c i i site sequence request
    (λ j h y. let e = same j h y in record { place = j; below = h; refers = sym (refers j h) ∙ y; site = e.0; sequence = e.1; part = e.2 })
    (λ j h y. let z : (row_at t i).refers_to j ≡ true = refers j h ∙ y in let e = same j h z in
    record { place = j; below = h; refers = z; site = sym e.0; sequence = sym e.1; part = sym e.2 })
    rule
