-- The parts that joining hands back, where calls reached both sides: where both interpreted a block their parts are equal, and so each is what
-- interpreting the place in the result would write. Assumes nothing.
use mathlib.Core.Path.{◌≡◌, refl, sym, ap, ◌∙◌, subst}
use mathlib.Core.Logic.{◌⊎◌, ◌≢◌, inl, inr}
use mathlib.Core.Bool.{true}
use mathlib.Core.List.{List}
use Prim.Native.Nat.{ℕ, zero, suc, ◌≤◌, ◌<◌}
use native.Mathlib.Nat.{eq-or-lt_of_le, le_of_suc-le-suc}
use native.Mathlib.Omega.{arith}
use lib.Dec.{eqb}
use borrow.Author.Tests.{eqb-true, eqb-false}
use Rattle.base.specs.Bytes.{Bytes}
use Rattle.base.proofs.Tests.{by_test}
use Rattle.setup.specs.Setup.{Setup}
use Rattle.table.specs.View.{max_places, View}
use Rattle.table.specs.Layout.{count_of, digest_at, site_at, sequence_at, mark_at, row_at, view_of}
use Rattle.table.specs.Form.{in_form}
use Rattle.table.proofs.InForm.{table_form, formed_row, formed_parent, one_place}
use Rattle.records.specs.Layout.{part_of}
use Rattle.interpret.specs.Interpretation.{written}
use Rattle.interpret.proofs.Relocation.{Stands, written_same, written_kept}
use Rattle.join.specs.Join.{refers_by, part_for, copied_below, joined_table, joined_records}
use Rattle.join.specs.Steps.{JoinableSides}
use Rattle.join.proofs.References.{by_from, by_has}
use Rattle.join.proofs.TableInvariant.{PlaceShows, Carried, TableInvariant}
use Rattle.join.proofs.ThirdBuffer as handed
use Rattle.run.proofs.SiteInvariant.{Fixed}
use Rattle.run.proofs.Reachability.{restored}

module _ (left right : Bytes) (left_records right_records third : List ℕ) (p : JoinableSides left right left_records right_records third) where
  abbrev n : ℕ
  n = count_of left

  abbrev m : ℕ
  m = count_of right

  abbrev w : View
  w = view_of right

  abbrev t : Bytes
  t = joined_table left right

  abbrev c : ℕ
  c = count_of t

  abbrev part : ℕ → List ℕ
  part q = part_for (view_of left) w left_records right_records (digest_at t q)

  abbrev records : List ℕ
  records = joined_records left right left_records right_records third

  abbrev copied_to : ℕ → List ℕ
  copied_to k = copied_below (view_of left) w left_records right_records t third k

  -- what is known of any two sides

  left_formed : in_form left ≡ true
  left_formed = p.joinable.formed.left_formed

  right_formed : in_form right ≡ true
  right_formed = p.joinable.formed.right_formed

  whole : TableInvariant left right p.joinable m t
  whole = handed.whole left right left_records right_records third p

  few : c ≤ max_places
  few = handed.few left right left_records right_records third p

  within : n ≤ c
  within = handed.left_within left right left_records right_records third p

  abbrev FromLeft : ℕ → Type 0
  FromLeft q = handed.FromLeft left right left_records right_records third p q

  abbrev FromRight : ℕ → Type 0
  FromRight q = handed.FromRight left right left_records right_records third p q

  source : (q : ℕ) → q < c → FromLeft q ⊎ (FromRight q ⊎ handed.Neither left right left_records right_records third p q)
  source = handed.source left right left_records right_records third p

  left_part : (q : ℕ) → q < n → mark_at left q ≡ 1 → part q ≡ part_of left_records q
  left_part = handed.left_part left right left_records right_records third p

  records_part : (q : ℕ) → q < c → mark_at t q ≡ 1 → part_of records q ≡ part q
  records_part = handed.records_part left right left_records right_records third p

  copied_unmarked : (k : ℕ) → k < c → mark_at t k ≢ 1 → copied_to (suc k) ≡ copied_to k
  copied_unmarked = handed.copied_unmarked left right left_records right_records third p

  -- ---- where both sides interpreted a block, their parts are equal

  module _ (s : Setup) (fixed_left : Fixed s left left_records) (fixed_right : Fixed s right right_records) where
    -- the part handed back is that of the right, wherever that has one
    abbrev pub RightPart : ℕ → Type 0
    RightPart j = (q : ℕ) → q < c → digest_at t q ≡ digest_at right j → mark_at right j ≡ 1 → part q ≡ part_of right_records j

    module _ (j : ℕ) (h : j < m) (ih : (i : ℕ) → i < j → RightPart i) (q : ℕ) (l : q < c) (e : digest_at t q ≡ digest_at right j) (mark : mark_at right j ≡ 1) where
      its : Carried left right p.joinable t q j
      its = whole.same q j l h e

      module _ (o : FromLeft q) where
        old : PlaceShows left right p.joinable t q left q
        old = whole.kept q o.below

        -- a block that both refer to
        meet : (a i : ℕ) → a < q → i < j → (row_at left q).refers_to a ≡ true → (row_at right j).refers_to i ≡ true → digest_at t a ≡ digest_at right i
            → (site_at left a ≡ site_at right i) × (sequence_at left a ≡ sequence_at right i) × (part_of left_records a ≡ part_of right_records i)
        meet a i la li ya yi d =
            let na : a < n = omega (arith, o.below) in
            let x = whole.same a i (omega (arith, within)) (omega arith) d in
            let kept = whole.kept a na in
            let lm : mark_at left a ≡ 1 = (formed_row left left_formed q o.below).closed o.mark a la ya in
            let rm : mark_at right i ≡ 1 = (formed_row right right_formed j h).closed mark i li yi in
            (sym kept.site ∙ x.site, sym kept.sequence ∙ x.sequence, sym (left_part a na lm) ∙ ih i li a (omega (arith, within)) d rm)

        left_few : n ≤ max_places
        left_few = (table_form left left_formed).held.fits

        right_few : m ≤ max_places
        right_few = (table_form right right_formed).held.fits

        refers_left : (a : ℕ) → a < q → (row_at left q).refers_to a ≡ refers_by w j (digest_at t a)
        refers_left a la = sym (old.refers_to a (omega (arith, o.below, left_few))) ∙ its.refers a la

        there : (a : ℕ) → a < q → (row_at left q).refers_to a ≡ true → Stands (view_of left) w left_records right_records a (row_at right j) j
        there a la y =
            let i = by_from w j (digest_at t a) (sym (refers_left a la) ∙ y) in
            let li : i.0 < j = (formed_row right right_formed j h).lower i.0 (omega (arith, i.1, right_few)) i.2 in
            let u = meet a i.0 la li y i.2 (sym i.3) in
            record { place = i.0; below = li; refers = i.2; site = u.0; sequence = u.1; part = u.2 }

        back : (i : ℕ) → i < j → (row_at right j).refers_to i ≡ true → Stands w (view_of left) right_records left_records i (row_at left q) q
        back i li y =
            let a = its.reaches i (omega arith) y in
            let z : (row_at left q).refers_to a.0 ≡ true = refers_left a.0 a.1 ∙ by_has w j (digest_at t a.0) i (omega arith) y (sym a.2) in
            let u = meet a.0 i a.1 li z y a.2 in
            record { place = a.0; below = a.1; refers = z; site = sym u.0; sequence = sym u.1; part = sym u.2 }

        both : part_of left_records q ≡ part_of right_records j
        both =
            fixed_left q o.below o.mark
            ∙ written_same s (view_of left) w left_records right_records q j (sym old.site ∙ its.site) (sym old.sequence ∙ its.sequence)
            (λ slot k. sym (old.request slot k) ∙ its.request slot k) there back (formed_parent left left_formed p.joinable.left_retired q o.below)
            ∙ sym (fixed_right j h mark)

      right_here : part q ≡ part_of right_records j
      right_here = elim (source q l) [
        | inl o ↦ o.is ∙ both o
        | inr u ↦ elim u [
          | inl o ↦ o.is ∙ ap (part_of right_records) (one_place right right_formed o.from j o.below h (sym o.digest ∙ e))
          | inr o ↦ absurd (o.unmarked (its.mark mark))
        ]
      ]

    right_below : (k : ℕ) → k ≤ m → (j : ℕ) → j < k → RightPart j
    right_below zero h j l = absurd (omega arith)
    right_below (suc k) h j l = elim (eq-or-lt_of_le (le_of_suc-le-suc l)) [
      | inl e ↦ subst RightPart (sym e) (right_here k h (λ i b. right_below k (omega arith) i b))
      | inr b ↦ right_below k (omega arith) j b
    ]

    pub right_part : (j : ℕ) → j < m → RightPart j
    right_part j h = right_below m (omega arith) j h

  pub restored_is : (k : ℕ) → k ≤ c → restored t records third k ≡ copied_to k
  unfolding restored copied_below
  restored_is zero h = refl
  restored_is (suc k) h = by_test (eqb (mark_at t k) 1)
      (λ y. rw (y, restored_is k (omega arith), records_part k h (eqb-true _ 1 y)))
      (λ z. rw z (restored_is k (omega arith)) ∙ sym (copied_unmarked k h (eqb-false _ 1 z)))

  -- ---- each part of a marked place is what interpreting it would write

  module _ (s : Setup) (fixed_left : Fixed s left left_records) (fixed_right : Fixed s right right_records) where
    left_fixed : (q : ℕ) → q < c → FromLeft q → part q ≡ written s (view_of t) records q
    left_fixed q h o =
        let row = formed_row left left_formed q o.below in
        let u = whole.kept q o.below in
        o.is ∙ fixed_left q o.below o.mark
        ∙ written_kept s left t left_records records q (omega (arith, few)) (formed_parent left left_formed p.joinable.left_retired q o.below) (sym u.site) (sym u.sequence) (λ slot l. sym (u.request slot l))
        (λ a l. sym (u.refers_to a (omega (arith, few))))
        (λ a l y. let la : a < n = omega (arith, o.below) in
        let v = whole.kept a la in
        let lm = row.closed o.mark a l y in
        (sym v.site, sym v.sequence, sym (records_part a (omega arith) (whole.still a la lm) ∙ left_part a la lm)))

    module _ (q : ℕ) (h : q < c) (o : FromRight q) where
      abbrev j : ℕ
      j = o.from

      carried_here : Carried left right p.joinable t q j
      carried_here = whole.same q j h o.below o.digest

      few_right : m ≤ max_places
      few_right = (table_form right right_formed).held.fits

      -- a block that it refers to, in the right and in the result
      pair : (i a : ℕ) → i < j → a < q → (row_at right j).refers_to i ≡ true → digest_at t a ≡ digest_at right i
          → (site_at right i ≡ site_at t a) × (sequence_at right i ≡ sequence_at t a) × (part_of right_records i ≡ part_of records a)
      pair i a li la y d =
          let lm : i < m = omega (arith, o.below) in
          let lc : a < c = omega arith in
          let x = whole.same a i lc lm d in
          let rm = (formed_row right right_formed j o.below).closed o.mark i li y in
          (sym x.site, sym x.sequence, sym (records_part a lc (x.mark rm) ∙ right_part s fixed_left fixed_right i lm a lc d rm))

      to_result : (i : ℕ) → i < j → (row_at right j).refers_to i ≡ true → Stands w (view_of t) right_records records i (row_at t q) q
      to_result i li y =
          let lm : i < m = omega (arith, o.below) in
          let a = carried_here.reaches i lm y in
          let u = pair i a.0 li a.1 y a.2 in
          record {
            place = a.0;
            below = a.1;
            refers = carried_here.refers a.0 a.1 ∙ by_has w j (digest_at t a.0) i lm y (sym a.2);
            site = u.0;
            sequence = u.1;
            part = u.2;
          }

      to_right : (a : ℕ) → a < q → (row_at t q).refers_to a ≡ true → Stands (view_of t) w records right_records a (row_at right j) j
      to_right a la y =
          let i = by_from w j (digest_at t a) (sym (carried_here.refers a la) ∙ y) in
          let li : i.0 < j = (formed_row right right_formed j o.below).lower i.0 (omega (arith, i.1, few_right)) i.2 in
          let u = pair i.0 a li la i.2 (sym i.3) in
          record { place = i.0; below = li; refers = i.2; site = sym u.0; sequence = sym u.1; part = sym u.2 }

      right_fixed : part q ≡ written s (view_of t) records q
      right_fixed =
          o.is ∙ fixed_right j o.below o.mark
          ∙ written_same s w (view_of t) right_records records j q (sym carried_here.site) (sym carried_here.sequence) (λ slot l. sym (carried_here.request slot l))
          to_result to_right (formed_parent right right_formed p.joinable.right_retired j o.below)

    pub joined_fixed : Fixed s t records
    joined_fixed q h y = records_part q h y ∙ elim (source q h) [
      | inl o ↦ left_fixed q h o
      | inr u ↦ elim u [ inl o ↦ right_fixed q h o | inr o ↦ absurd (o.unmarked y) ]
    ]
