-- One law for each step of the code that hands parts back and copies them. Assumes nothing.
use mathlib.Core.Path.{◌≡◌, refl, sym, ap, ap₂, ◌∙◌}
use mathlib.Core.Bool.{true, false}
use mathlib.Core.List.{List}
use Prim.Native.Nat.{ℕ, ◌+◌, ◌≤◌, ◌<◌}
use native.Mathlib.Numerals.{add-one}
use native.Mathlib.Omega.{arith}
use lib.Dec.{ltb}
use lib.ListN.{length, take, drop}
use lib.Seq.{take_all, length-take-le}
use borrow.Author.Tests.{ltb-true, ltb-false, not-false}
use Rattle.base.specs.Bytes.{Bytes, splice}
use Rattle.base.proofs.Tests.{by_test}
use Rattle.base.proofs.Count.{count_rises}
use Rattle.table.specs.View.{max_places, View}
use Rattle.table.specs.Layout.{count_of, digest_at, view_of}
use Rattle.records.specs.Layout.{part_size, part_start}
use Rattle.join.specs.Join.{is_extra, place_in, interpreted_at, handed_back, copied_below}
use Rattle.join.specs.Promises.{place_behind}
use Rattle.join.specs.Steps.{Joinable, result_place, extras_below}
use Rattle.join.proofs.References.{place_is}
use Rattle.join.proofs.PlaceLists.{extra_is}

-- ---- whose part it is

module _ (v w : View) (left right : List ℕ) (i j : ℕ) where
  short : (b : List ℕ) (k : ℕ) → length (take part_size (drop (part_start k) b)) ≤ part_size
  short b k = by_test (ltb (length (drop (part_start k) b)) part_size)
      (λ y. let l : length (drop (part_start k) b) < part_size = ltb-true _ _ y in
      let e : length (take part_size (drop (part_start k) b)) ≡ length (drop (part_start k) b) = ap length (take_all part_size (drop (part_start k) b) (omega arith)) in omega arith)
      (λ n. omega (arith, length-take-le part_size (drop (part_start k) b) (ltb-false _ _ n)))

  pub handed_short : length (handed_back v w left right i j) ≤ part_size
  unfolding handed_back
  handed_short = by_test (interpreted_at v i)
      (λ y. rw y (short left i))
      (λ z. by_test (interpreted_at w j) (λ y. rw (z, y) (short right j)) (λ o. rw (z, o) (omega arith)))

-- ---- one place more

module _ (left right : Bytes) (both : Joinable left right) where
  abbrev v : View
  v = view_of left

  abbrev w : View
  w = view_of right

  -- a block of the right is not in the left if its place in the result is behind the left's, and else in it
  pub behind_extra : (k place : ℕ) → place ≡ result_place left right k → count_of left ≤ place → (is_extra v w k ≡ true) × (place ≡ place_behind left right k)
  behind_extra k place e h = by_test (is_extra v w k)
      (λ y. (y, e ∙ rw y))
      (λ z. let o : place ≡ place_in v (digest_at right k) = e ∙ rw z in
      absurd (omega (arith, ltb-true (place_in v (digest_at right k)) (count_of left) (not-false _ (sym (extra_is left right k) ∙ z)))))

  pub within_held : (k place : ℕ) → place ≡ result_place left right k → place < count_of left → is_extra v w k ≡ false
  within_held k place e h = by_test (is_extra v w k)
      (λ y. let o : place ≡ place_behind left right k = e ∙ rw y in absurd (omega arith))
      (λ z. z)

  -- a place behind the left's is one of the table's
  pub extra_low : (k place : ℕ) → k < count_of right → place ≡ result_place left right k → count_of left ≤ place → place < max_places
  extra_low k place h e l =
      let u = behind_extra k place e l in
      omega (arith, u.1, count_rises (is_extra v w) k (count_of right) u.0 h, both.fits)

  module _ (left_records right_records third : List ℕ) where
    -- a part of the left's places
    pub copy_more : (x x' : List ℕ) (k q : ℕ) → k < count_of left → x ≡ copied_below v w left_records right_records left third k → q ≡ place_in w (digest_at left k)
        → x' ≡ splice x (part_start k) (handed_back v w left_records right_records k q) → x' ≡ copied_below v w left_records right_records left third (k + 1)
    unfolding copied_below
    copy_more x x' k q h e f o =
        rw (add-one k) (o ∙ ap₂ (λ (b : List ℕ) (j : ℕ). splice b (part_start k) (handed_back v w left_records right_records k j)) e f
        ∙ ap (λ (i : ℕ). splice (copied_below v w left_records right_records left third k) (part_start k) (handed_back v w left_records right_records i (place_in w (digest_at left k))))
        (sym (place_is left both.formed.left_formed (digest_at left k) k h refl)))

    -- of the right's
    pub extra_more : (x x' : List ℕ) (k place : ℕ) → x ≡ extras_below left right left_records right_records third k → place ≡ result_place left right k → count_of left ≤ place
        → x' ≡ splice x (part_start place) (handed_back v w left_records right_records (count_of left) k) → x' ≡ extras_below left right left_records right_records third (k + 1)
    unfolding extras_below
    extra_more x x' k place e p h o =
        let u = behind_extra k place p h in
        rw (add-one k, u.0) (o ∙ ap₂ (λ (b : List ℕ) (q : ℕ). splice b (part_start q) (handed_back v w left_records right_records (count_of left) k)) e u.1)

    pub held_more : (x : List ℕ) (k place : ℕ) → x ≡ extras_below left right left_records right_records third k → place ≡ result_place left right k → place < count_of left
        → x ≡ extras_below left right left_records right_records third (k + 1)
    unfolding extras_below
    held_more x k place e p h = rw (add-one k, within_held k place p h) e
