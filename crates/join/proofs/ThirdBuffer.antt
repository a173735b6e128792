-- The parts that joining hands back, and the third buffer: for each place of the result the part of the side that interpreted it, the left's if
-- both did; every other part stays. Assumes nothing.
use mathlib.Core.Path.{◌≡◌, refl, sym, ap, ◌∙◌}
use mathlib.Core.Bool.{true}
use mathlib.Core.Logic.{◌⊎◌, ◌≢◌, inl, inr}
use mathlib.Core.List.{List, []}
use Prim.Native.Nat.{ℕ, zero, suc, ◌+◌, ◌≤◌, ◌<◌}
use native.Mathlib.Omega.{arith}
use lib.Dec.{eqb, ltb}
use lib.ListN.{length, drop, length-drop}
use lib.Seq.{length-take-le}
use borrow.Author.Tests.{eqb-true, eqb-false, ltb-true, ltb-false}
use Rattle.base.specs.Bytes.{Bytes, splice}
use Rattle.base.proofs.Tests.{by_test, true_not_false}
use Rattle.base.proofs.Splice.{splice_nothing, length_splice}
use Rattle.table.specs.View.{max_places, interpreted, View}
use Rattle.table.specs.Layout.{count_of, digest_at, mark_at, row_at, view_of}
use Rattle.table.proofs.InForm.{table_form, one_place}
use Rattle.records.specs.Layout.{part_size, buffer_size, part_start, part_of}
use Rattle.records.proofs.Parts.{part_written, part_other}
use Rattle.join.specs.Join.{place_in, interpreted_at, handed_back, part_for, copied_below, joined_table, joined_records}
use Rattle.join.specs.Steps.{JoinableSides}
use Rattle.join.proofs.References.{place_has, interpreted_from, interpreted_here}
use Rattle.join.proofs.TableInvariant.{TableInvariant, joining}

module _ (left right : Bytes) (left_records right_records third : List ℕ) (p : JoinableSides left right left_records right_records third) where
  abbrev n : ℕ
  n = count_of left

  abbrev m : ℕ
  m = count_of right

  abbrev w : View
  w = view_of right

  abbrev t : Bytes
  t = joined_table left right

  abbrev c : ℕ
  c = count_of t

  pub whole : TableInvariant left right p.joinable m t
  whole = joining left right p.joinable m (omega arith)

  pub few : c ≤ max_places
  few = (table_form t whole.formed).held.fits

  pub left_within : n ≤ c
  left_within = omega (arith, whole.count)

  -- the part handed back for a place
  abbrev part : ℕ → List ℕ
  part q = part_for (view_of left) w left_records right_records (digest_at t q)

  -- ---- whose it is

  pub record FromLeft (q : ℕ) : Type 0 where
    pub below : q < n
    pub mark : mark_at left q ≡ 1
    pub is : part q ≡ part_of left_records q

  pub record FromRight (q : ℕ) : Type 0 where
    pub from : ℕ
    pub below : from < m
    pub digest : digest_at t q ≡ digest_at right from
    pub mark : mark_at right from ≡ 1
    pub is : part q ≡ part_of right_records from

  pub record Neither (q : ℕ) : Type 0 where
    pub unmarked : mark_at t q ≢ 1
    pub is : part q ≡ []

  abbrev in_left : ℕ → ℕ
  in_left q = place_in (view_of left) (digest_at t q)

  abbrev in_right : ℕ → ℕ
  in_right q = place_in w (digest_at t q)

  pub from_left : (q : ℕ) → q < c → interpreted_at (view_of left) (in_left q) ≡ true → FromLeft q
  unfolding handed_back
  from_left q h y =
      let i = interpreted_from (view_of left) (in_left q) y in
      let s : in_left q ≡ q = one_place t whole.formed (in_left q) q (omega (arith, i.0, left_within)) h
      ((whole.kept (in_left q) i.0).digest ∙ place_has (view_of left) (digest_at t q) i.0) in
      record { below = omega (arith, i.0); mark = ap (mark_at left) (sym s) ∙ i.1; is = rw y (ap (part_of left_records) s) }

  -- a mark of the result comes from a side
  pub marked_by : (q : ℕ) → q < c → mark_at t q ≡ 1 → (interpreted_at (view_of left) (in_left q) ≡ true) ⊎ (interpreted_at w (in_right q) ≡ true)
  marked_by q h e = by_test (ltb q n)
      (λ y. let l : q < n = ltb-true q n y in elim (whole.marks q l e) [
        | inl u ↦ inl (interpreted_here left p.joinable.formed.left_formed (digest_at t q) q l (sym (whole.kept q l).digest) u)
        | inr u ↦ inr (interpreted_here right p.joinable.formed.right_formed (digest_at t q) u.from u.below (sym u.digest ∙ sym (whole.kept q l).digest) u.mark)
      ])
      (λ y. let u = whole.added q (omega (arith, ltb-false q n y)) h in
      inr (interpreted_here right p.joinable.formed.right_formed (digest_at t q) u.from u.below (sym u.digest) (sym u.mark ∙ e)))

  pub source : (q : ℕ) → q < c → FromLeft q ⊎ (FromRight q ⊎ Neither q)
  unfolding handed_back
  source q h = by_test (interpreted_at (view_of left) (in_left q))
      (λ y. inl (from_left q h y))
      (λ z. by_test (interpreted_at w (in_right q))
      (λ y. let i = interpreted_from w (in_right q) y in
      inr (inl (record { from = in_right q; below = i.0; digest = sym (place_has w (digest_at t q) i.0); mark = i.1; is = rw (z, y) })))
      (λ o. inr (inr (record { unmarked = λ e. elim (marked_by q h e) [ inl u ↦ true_not_false u z | inr u ↦ true_not_false u o ]; is = rw (z, o) }))))

  -- a place that the left interpreted
  pub left_part : (q : ℕ) → q < n → mark_at left q ≡ 1 → part q ≡ part_of left_records q
  left_part q h e =
      (from_left q (omega (arith, left_within)) (interpreted_here left p.joinable.formed.left_formed (digest_at t q) q h (sym (whole.kept q h).digest) e)).is

  -- ---- the third buffer

  abbrev copied_to : ℕ → List ℕ
  copied_to k = copied_below (view_of left) w left_records right_records t third k

  part_none : (q : ℕ) → q < c → mark_at t q ≢ 1 → part q ≡ []
  part_none q h bare = elim (source q h) [
    | inl o ↦ absurd (bare (whole.still q o.below o.mark))
    | inr u ↦ elim u [ inl o ↦ absurd (bare ((whole.same q o.from h o.below o.digest).mark o.mark)) | inr o ↦ o.is ]
  ]

  length_part : (b : List ℕ) → length b ≡ buffer_size → (i : ℕ) → i < max_places → length (part_of b i) ≡ part_size
  length_part b e i h = length-take-le part_size (drop (part_start i) b) (omega (arith, length-drop (part_start i) b))

  part_length : (q : ℕ) → q < c → mark_at t q ≡ 1 → length (part q) ≡ part_size
  part_length q h y = elim (source q h) [
    | inl o ↦ ap length o.is ∙ length_part left_records p.left_size q (omega (arith, few))
    | inr u ↦ elim u [
      | inl o ↦ ap length o.is ∙ length_part right_records p.right_size o.from (omega (arith, o.below, (table_form right p.joinable.formed.right_formed).held.fits))
      | inr o ↦ absurd (o.unmarked y)
    ]
  ]

  -- one place more
  copied_next : (k : ℕ) → copied_to (suc k) ≡ splice (copied_to k) (part_start k) (part k)
  unfolding copied_below
  copied_next k = refl

  pub copied_unmarked : (k : ℕ) → k < c → mark_at t k ≢ 1 → copied_to (suc k) ≡ copied_to k
  copied_unmarked k h bare = copied_next k ∙ ap (splice (copied_to k) (part_start k)) (part_none k h bare) ∙ splice_nothing (copied_to k) (part_start k)

  copied_length : (k : ℕ) → k ≤ c → length (copied_to k) ≡ buffer_size
  unfolding copied_below
  copied_length zero h = p.size
  copied_length (suc k) h =
      let e : length (copied_to k) ≡ buffer_size = copied_length k (omega arith) in
      by_test (interpreted (row_at t k))
      (λ y. length_splice (copied_to k) (part_start k) (part k) (omega (arith, part_length k h (eqb-true _ 1 y), few)) ∙ e)
      (λ z. ap length (copied_unmarked k h (eqb-false _ 1 z)) ∙ e)

  -- an interpreted place: its part is put there, and no other changes
  module _ (k : ℕ) (h : k < c) (y : mark_at t k ≡ 1) where
    room : part_start k + part_size ≤ length (copied_to k)
    room = omega (arith, copied_length k (omega arith), few)

    put_here : part_of (copied_to (suc k)) k ≡ part k
    put_here = ap (λ (b : List ℕ). part_of b k) (copied_next k) ∙ part_written (copied_to k) (part k) k (part_length k h y) room

    put_elsewhere : (q : ℕ) → q ≢ k → part_of (copied_to (suc k)) q ≡ part_of (copied_to k) q
    put_elsewhere q o = ap (λ (b : List ℕ). part_of b q) (copied_next k) ∙ part_other (copied_to k) (part k) k (part_length k h y) room q o

  -- so a part is changed by its own place alone
  copied_other : (k : ℕ) → k < c → (q : ℕ) → q ≢ k → part_of (copied_to (suc k)) q ≡ part_of (copied_to k) q
  copied_other k h q o = by_test (interpreted (row_at t k))
      (λ y. put_elsewhere k h (eqb-true _ 1 y) q o)
      (λ z. ap (λ (b : List ℕ). part_of b q) (copied_unmarked k h (eqb-false _ 1 z)))

  copied_part : (k : ℕ) → k ≤ c → (q : ℕ) → q < k → mark_at t q ≡ 1 → part_of (copied_to k) q ≡ part q
  copied_part zero h q l y = absurd (omega arith)
  copied_part (suc k) h q l y = by_test (eqb q k)
      (λ o. let e : q ≡ k = eqb-true q k o in ap (part_of (copied_to (suc k))) e ∙ put_here k h (ap (mark_at t) (sym e) ∙ y) ∙ ap part (sym e))
      (λ o. copied_other k h q (eqb-false q k o) ∙ copied_part k (omega arith) q (omega (arith, eqb-false q k o)) y)

  copied_rest : (k : ℕ) → k ≤ c → (q : ℕ) → (q < c → mark_at t q ≢ 1) → part_of (copied_to k) q ≡ part_of third q
  unfolding copied_below
  copied_rest zero h q bare = refl
  copied_rest (suc k) h q bare = by_test (eqb q k)
      (λ o. let e : q ≡ k = eqb-true q k o in
      ap (λ (b : List ℕ). part_of b q) (copied_unmarked k h (λ y. bare (omega arith) (ap (mark_at t) e ∙ y))) ∙ copied_rest k (omega arith) q bare)
      (λ o. copied_other k h q (eqb-false q k o) ∙ copied_rest k (omega arith) q bare)

  -- the result
  abbrev records : List ℕ
  records = joined_records left right left_records right_records third

  pub records_length : length records ≡ buffer_size
  records_length = copied_length c (omega arith)

  pub records_part : (q : ℕ) → q < c → mark_at t q ≡ 1 → part_of records q ≡ part q
  records_part q h y = copied_part c (omega arith) q h y

  pub records_rest : (q : ℕ) → (q < c → mark_at t q ≢ 1) → part_of records q ≡ part_of third q
  records_rest q bare = copied_rest c (omega arith) q bare
