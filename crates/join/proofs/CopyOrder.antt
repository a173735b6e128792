-- The parts copied from both sides before the table changes are those of the result. Assumes nothing.
use mathlib.Core.Path.{◌≡◌, refl, sym, ap, ap₂, ◌∙◌}
use mathlib.Core.Bool.{Bool, true}
use mathlib.Core.List.{List}
use Prim.Native.Nat.{ℕ, zero, suc, ◌+◌, ◌≤◌, ◌<◌}
use native.Mathlib.Omega.{arith}
use borrow.Author.Tests.{ltb-false, not-true}
use Rattle.base.specs.Count.{count_below}
use Rattle.base.specs.Bytes.{Bytes, splice}
use Rattle.base.proofs.Tests.{by_test}
use Rattle.base.proofs.Search.{first_le}
use Rattle.table.specs.Layout.{count_of, digest_at, view_of}
use Rattle.table.specs.Rules.{has_digest}
use Rattle.records.specs.Layout.{part_start}
use Rattle.join.specs.Join.{is_extra, place_in, handed_back, part_for, copied_below, joined_table, joined_records}
use Rattle.join.specs.Promises.{place_behind}
use Rattle.join.specs.Steps.{Joinable, extras_below}
use Rattle.join.proofs.References.{place_is}
use Rattle.join.proofs.PlaceLists.{extra_is}
use Rattle.join.proofs.PlacesInvariant.{extra_at}
use Rattle.join.proofs.TableInvariant.{TableInvariant, joining}

module _ (left right : Bytes) (left_records right_records third : List ℕ) (both : Joinable left right) where
  abbrev t : Bytes
  t = joined_table left right

  abbrev n : ℕ
  n = count_of left

  abbrev m : ℕ
  m = count_of right

  whole : TableInvariant left right both m t
  whole = joining left right both m (omega arith)

  abbrev extra : ℕ → Bool
  extra j = is_extra (view_of left) (view_of right) j

  abbrev to : Bytes → ℕ → List ℕ
  to u k = copied_below (view_of left) (view_of right) left_records right_records u third k

  abbrev part : Bytes → List ℕ
  part d = part_for (view_of left) (view_of right) left_records right_records d

  -- the left's places
  left_same : (k : ℕ) → k ≤ n → to left k ≡ to t k
  unfolding copied_below
  left_same zero h = refl
  left_same (suc k) h = ap₂ (λ (b : List ℕ) (d : Bytes). splice b (part_start k) (part d))
      (left_same k (omega arith)) (sym (whole.kept k h).digest)

  -- the part of a block that is not in the left
  extra_part : (k : ℕ) → k < m → extra k ≡ true
      → handed_back (view_of left) (view_of right) left_records right_records n k ≡ part (digest_at t (place_behind left right k))
  extra_part k h y =
      let d : Bytes = digest_at right k in
      let i : place_in (view_of left) d ≡ n = omega (arith, first_le (has_digest (view_of left) d) n, ltb-false (place_in (view_of left) d) n (not-true _ (sym (extra_is left right k) ∙ y))) in
      ap₂ (handed_back (view_of left) (view_of right) left_records right_records) (sym i) (sym (place_is right both.formed.right_formed d k h refl))
      ∙ ap part (sym (extra_at left right both m t whole k h y))

  abbrev more : ℕ → List ℕ
  more k = extras_below left right left_records right_records (to left n) k

  extras_same : (k : ℕ) → k ≤ m → more k ≡ to t (place_behind left right k)
  unfolding extras_below copied_below count_below
  extras_same zero h = let e : n ≡ n + 0 = omega arith in left_same n (omega arith) ∙ ap (to t) e
  extras_same (suc k) h = by_test (extra k)
      (λ y. let e : suc (n + count_below extra k) ≡ n + (1 + count_below extra k) = omega arith in
      rw y (ap₂ (λ (b : List ℕ) (x : List ℕ). splice b (part_start (n + count_below extra k)) x) (extras_same k (omega arith)) (extra_part k h y) ∙ ap (to t) e))
      (λ z. let e : n + count_below extra k ≡ n + (0 + count_below extra k) = omega arith in rw z (extras_same k (omega arith) ∙ ap (to t) e))

  pub all_copied : (x y : List ℕ) → x ≡ to left n → y ≡ extras_below left right left_records right_records x m → y ≡ joined_records left right left_records right_records third
  all_copied x y e f =
      f ∙ ap (λ (b : List ℕ). extras_below left right left_records right_records b m) e ∙ extras_same m (omega arith)
      ∙ ap (to t) (sym whole.count)
