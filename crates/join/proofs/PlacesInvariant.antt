-- After the right's places below k: where each block stands in the table, and what putting the next one asks. Assumes nothing.
use mathlib.Core.Path.{◌≡◌, refl, sym, ap, ◌∙◌, subst}
use mathlib.Core.Bool.{Bool, true, false, ◌&&◌}
use mathlib.Core.Logic.{◌≢◌}
use mathlib.Core.List.{List}
use Prim.Native.Nat.{ℕ, ◌≤◌, ◌<◌}
use native.Mathlib.Omega.{arith}
use lib.Dec.{eqb, ltb}
use lib.ListN.{get_or}
use borrow.Author.Tests.{eqb-true, eq-eqb, ne_eqb, lt-ltb, ltb-true, ltb-false, not-true, not-false}
use Rattle.base.specs.Search.{any_below}
use Rattle.base.specs.Mask.{in_mask}
use Rattle.base.specs.Bytes.{Bytes}
use Rattle.base.proofs.Tests.{by_test, and_left, and_right, same_tests}
use Rattle.base.proofs.Search.{any_true, any_true_at, any_false}
use Rattle.base.proofs.Count.{count_rises, count_apart}
use Rattle.base.proofs.Bytes.{other_same}
use Rattle.base.proofs.Sets.{mask_has}
use Rattle.table.specs.View.{max_places, SameRow}
use Rattle.table.specs.Layout.{count_of, digest_at, references_at, mark_at, view_of, with_row, with_mark}
use Rattle.table.specs.Rules.{has_digest}
use Rattle.table.specs.Steps.{row_with}
use Rattle.table.proofs.InForm.{table_form, formed_places, formed_row, one_place}
use Rattle.table.proofs.AddedRow.{put_same}
use Rattle.join.specs.Join.{refers_by, is_extra, carried, join_place, place_in}
use Rattle.join.specs.Promises.{place_behind}
use Rattle.join.specs.Steps.{Joinable, result_place, Numbered, EachPlaced, renumbered_by, Next}
use Rattle.join.proofs.References.{place_has, place_found, place_is, by_from, by_has}
use Rattle.join.proofs.PlaceLists.{extra_is}
use Rattle.join.proofs.TableInvariant.{TableInvariant, joining, room}

module _ (left right : Bytes) (both : Joinable left right) (k : ℕ) (t : Bytes) (a : TableInvariant left right both k t) where
  abbrev n : ℕ
  n = count_of left

  abbrev c : ℕ
  c = count_of t

  abbrev extra : ℕ → Bool
  extra j = is_extra (view_of left) (view_of right) j

  -- a block that is in the left stands there
  held_low : (j : ℕ) → extra j ≡ false → place_in (view_of left) (digest_at right j) < n
  held_low j z = ltb-true (place_in (view_of left) (digest_at right j)) n (not-false _ (sym (extra_is left right j) ∙ z))

  held_at : (j : ℕ) → extra j ≡ false → digest_at t (place_in (view_of left) (digest_at right j)) ≡ digest_at right j
  held_at j z = let l = held_low j z in (a.kept (place_in (view_of left) (digest_at right j)) l).digest ∙ place_has (view_of left) (digest_at right j) l

  -- one that is not stands behind, where it has come
  pub extra_below : (j : ℕ) → j < k → extra j ≡ true → place_behind left right j < c
  extra_below j h y = omega (arith, a.count, count_rises extra j k y h)

  pub extra_at : (j : ℕ) → j < k → extra j ≡ true → digest_at t (place_behind left right j) ≡ digest_at right j
  extra_at j h y =
      let u = a.added (place_behind left right j) (omega arith) (extra_below j h y) in
      u.digest ∙ ap (digest_at right) (count_apart extra u.from j u.is_new y (omega (arith, u.place)))

  -- so each has its place in the result
  pub result_at : (j : ℕ) → j < k → (result_place left right j < c) × (digest_at t (result_place left right j) ≡ digest_at right j)
  result_at j h = by_test (extra j)
      (λ y. rw y (extra_below j h y, extra_at j h y))
      (λ z. rw z (omega (arith, held_low j z, a.count), held_at j z))

  -- ---- the next block

  module _ (below : k < count_of right) where
    abbrev d : Bytes
    d = digest_at right k

    few : c ≤ max_places
    few = (table_form t a.formed).held.fits

    right_few : count_of right ≤ max_places
    right_few = (table_form right both.formed.right_formed).held.fits

    -- it is held where its place is below the count
    stands : result_place left right k < c → place_in (view_of t) d ≡ result_place left right k
    stands h = by_test (extra k)
        (λ y. let e : result_place left right k ≡ place_behind left right k = rw y in absurd (omega (arith, a.count)))
        (λ z. let e : result_place left right k ≡ place_in (view_of left) d = rw z in
        place_is t a.formed d (place_in (view_of left) d) (omega (arith, held_low k z, a.count)) (held_at k z) ∙ sym e)

    is_held : result_place left right k < c → any_below (has_digest (view_of t) d) c ≡ true
    unfolding any_below
    is_held h = lt-ltb (place_in (view_of t) d) c (omega (arith, stands h))

    -- and else is not
    not_there : c ≤ result_place left right k → (p : ℕ) → p < c → digest_at t p ≢ d
    not_there h p l e = by_test (extra k)
        (λ y. by_test (ltb p n)
        (λ o. let q : p < n = ltb-true p n o in
        let m = place_found (view_of left) d p q (sym (a.kept p q).digest ∙ e) in
        omega (arith, ltb-false (place_in (view_of left) d) n (not-true _ (sym (extra_is left right k) ∙ y))))
        (λ o. let u = a.added p (omega (arith, ltb-false p n o)) l in
        (formed_row right both.formed.right_formed k below).new u.from u.below (sym u.digest ∙ e)))
        (λ z. let o : result_place left right k ≡ place_in (view_of left) d = rw z in omega (arith, held_low k z, a.count))

    is_new_lem : c ≤ result_place left right k → any_below (has_digest (view_of t) d) c ≡ false
    is_new_lem h = any_false (has_digest (view_of t) d) c (λ p l. other_same (digest_at t p) d (not_there h p l))

    -- ---- its references

    module _ (places : List ℕ) (numbered : Numbered left right places) where
      reference_at_lem : (i : ℕ) → i < max_places → in_mask (references_at right k) i ≡ true → (i < k) × (get_or places i 0 < c) × (digest_at t (get_or places i 0) ≡ digest_at right i)
      reference_at_lem i h y =
          let l : i < k = (formed_row right both.formed.right_formed k below).lower i h y in
          let e = numbered.at i (omega arith) in
          let u = result_at i l in
          (l, omega (arith, u.0), ap (digest_at t) e ∙ u.1)

      each_placed : EachPlaced (references_at right k) places
      each_placed = record { below = λ i h y. omega (arith, (reference_at_lem i h y).1, few) }

      abbrev refers : ℕ → ℕ → Bool
      refers p i = in_mask (references_at right k) i && eqb (get_or places i 0) p

      refers_is : (p : ℕ) → any_below (refers p) max_places ≡ (ltb p c && refers_by (view_of right) k (digest_at t p))
      refers_is p = same_tests _ _
          (λ y. let w = any_true_at (refers p) max_places y in
          let i : ℕ = w.0 in
          let o : in_mask (references_at right k) i ≡ true = and_left (in_mask (references_at right k) i) (eqb (get_or places i 0) p) w.2 in
          let e : get_or places i 0 ≡ p = eqb-true (get_or places i 0) p (and_right (in_mask (references_at right k) i) (eqb (get_or places i 0) p) w.2) in
          let u = reference_at_lem i w.1 o in
          let b : refers_by (view_of right) k (digest_at t p) ≡ true = by_has (view_of right) k (digest_at t p) i (omega (arith, u.0)) o (sym u.2 ∙ ap (digest_at t) e) in
          rw (lt-ltb p c (omega (arith, u.1)), b))
          (λ y. let l : p < c = ltb-true p c (and_left (ltb p c) (refers_by (view_of right) k (digest_at t p)) y) in
          let i = by_from (view_of right) k (digest_at t p) (and_right (ltb p c) (refers_by (view_of right) k (digest_at t p)) y) in
          let b : i.0 < max_places = omega (arith, i.1, right_few) in
          let u = reference_at_lem i.0 b i.2 in
          let e : get_or places i.0 0 ≡ p = one_place t a.formed (get_or places i.0 0) p u.1 l (u.2 ∙ i.3) in
          any_true (refers p) max_places i.0 b (rw (i.2, eq-eqb (get_or places i.0 0) p e)))

      row_same : SameRow (row_with right k (renumbered_by (references_at right k) places)) (carried (view_of t) (view_of right) k)
      row_same =
          record {
            digest = refl;
            site = refl;
            sequence = refl;
            refers_to = λ p h. mask_has (λ p. any_below (refers p) max_places) max_places p h ∙ refers_is p;
            request = λ slot h. refl;
            mark = refl;
          }

-- ---- the step of the code

module _ (t right : Bytes) (j : ℕ) (places : List ℕ) (next : Next t right j places) where
  abbrev left : Bytes
  left = next.left

  abbrev both : Joinable left right
  both = next.joinable

  so_far : TableInvariant left right both j t
  so_far = subst (TableInvariant left right both j) (sym next.is) (joining left right both j (omega (arith, next.below)))

  place_is_result : get_or places j 0 ≡ result_place left right j
  place_is_result = next.numbered.at j next.below

  pub table_sized : count_of t ≤ max_places
  table_sized = formed_places t so_far.formed

  pub right_place : j < max_places
  right_place = omega (arith, formed_places right both.formed.right_formed, next.below)

  pub each : EachPlaced (references_at right j) places
  each = each_placed left right both j t so_far next.below places next.numbered

  module _ (h : count_of t ≤ get_or places j 0) where
    new : any_below (has_digest (view_of t) (digest_at right j)) (count_of t) ≡ false
    new = is_new_lem left right both j t so_far next.below (omega (arith, place_is_result))

    pub next_place : count_of t < max_places
    next_place = room left right both j next.below t so_far new

    pub put_is : (t' : Bytes) → t' ≡ with_row t (row_with right j (renumbered_by (references_at right j) places)) → t' ≡ join_place t (view_of right) j
    unfolding join_place
    put_is t' o = rw new (o ∙ put_same t _ _ (row_same left right both j t so_far next.below places next.numbered))

  module _ (h : get_or places j 0 < count_of t) where
    low : result_place left right j < count_of t
    low = omega (arith, place_is_result)

    there : any_below (has_digest (view_of t) (digest_at right j)) (count_of t) ≡ true
    there = is_held left right both j t so_far next.below low

    pub mark_is : mark_at right j ≡ 1 → (t' : Bytes) → t' ≡ with_mark t (get_or places j 0) → t' ≡ join_place t (view_of right) j
    unfolding join_place
    mark_is m t' o =
        rw (there, eq-eqb (mark_at right j) 1 m)
        (o ∙ ap (with_mark t) (place_is_result ∙ sym (stands left right both j t so_far next.below low)))

    pub leave_is : mark_at right j ≢ 1 → t ≡ join_place t (view_of right) j
    unfolding join_place
    leave_is m = rw (there, ne_eqb (mark_at right j) 1 m)
