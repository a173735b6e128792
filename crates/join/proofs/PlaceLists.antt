-- Where blocks of one table stand in another, found one after the other, and the places in the result. Assumes nothing.
use mathlib.Core.Path.{◌≡◌, refl, ap, ◌∙◌}
use mathlib.Core.Bool.{true, false, not}
use mathlib.Core.List.{List}
use Prim.Native.Nat.{ℕ, ◌+◌, ◌≤◌, ◌<◌}
use native.Mathlib.Omega.{arith}
use lib.Dec.{eqb, ltb}
use lib.ListN.{length, get_or, set, length-set}
use lib.Seq.{get_or-set_same, get_or-set_other}
use borrow.Author.Tests.{eqb-true, eqb-false, lt-ltb, le-ltb}
use Rattle.base.specs.Search.{any_below}
use Rattle.base.specs.Count.{count_below}
use Rattle.base.specs.Bytes.{Bytes}
use Rattle.base.proofs.Tests.{by_test}
use Rattle.base.proofs.Count.{count_here, count_past}
use Rattle.table.specs.View.{max_places}
use Rattle.table.specs.Layout.{count_of, digest_at, view_of}
use Rattle.join.specs.Join.{is_extra, place_in}
use Rattle.join.specs.Promises.{place_behind}
use Rattle.join.specs.Steps.{PlacesFound, result_place}

-- ---- the places below k

pub record HeldBelow (table other : Bytes) (k : ℕ) (places : List ℕ) : Type 0 where
  pub size : length places ≡ max_places
  pub at : (i : ℕ) → i < k → get_or places i 0 ≡ place_in (view_of table) (digest_at other i)

pub held_next : (table other : Bytes) (k v : ℕ) (places : List ℕ) → HeldBelow table other k places → k < max_places → v ≡ place_in (view_of table) (digest_at other k)
    → HeldBelow table other (k + 1) (set places k v)
held_next table other k v places a h e =
    record {
      size = length-set places k v ∙ a.size;
      at = λ i l. by_test (eqb i k)
          (λ y. let q : i ≡ k = eqb-true i k y in rw q (get_or-set_same places k v 0 (omega (arith, a.size)) ∙ e))
          (λ n. get_or-set_other places k i v 0 (eqb-false i k n) ∙ a.at i (omega (arith, eqb-false i k n)));
    }

-- ---- the places in the result

-- not in the left: not found there
pub extra_is : (left right : Bytes) (j : ℕ) → is_extra (view_of left) (view_of right) j ≡ not (ltb (place_in (view_of left) (digest_at right j)) (count_of left))
unfolding any_below
extra_is left right j = refl

-- those of the blocks below j are known, and the next place behind the left's
pub record NumberedBelow (left right : Bytes) (j next : ℕ) (places : List ℕ) : Type 0 where
  pub size : length places ≡ max_places
  pub free : next ≡ place_behind left right j
  pub few : next ≤ count_of left + j
  pub done : (i : ℕ) → i < j → get_or places i 0 ≡ result_place left right i
  pub rest : (i : ℕ) → j ≤ i → i < count_of right → get_or places i 0 ≡ place_in (view_of left) (digest_at right i)

module _ (left right : Bytes) where
  pub number_start : (next : ℕ) (places : List ℕ) → length places ≡ max_places → PlacesFound left right places → next ≡ count_of left → NumberedBelow left right 0 next places
  unfolding count_below
  number_start next places s a e =
      record { size = s; free = omega (arith, e); few = omega (arith, e); done = λ i l. absurd (omega arith); rest = λ i h l. a.at i l }

  module _ (j next : ℕ) (places : List ℕ) (a : NumberedBelow left right j next places) (below : j < count_of right) where
    pub number_held : get_or places j 0 < count_of left → NumberedBelow left right (j + 1) next places
    number_held h =
        record {
          size = a.size;
          free = a.free ∙ ap (λ (n : ℕ). count_of left + n) (count_past (is_extra (view_of left) (view_of right)) j not_extra);
          few = omega (arith, a.few);
          done = λ i l. by_test (eqb i j)
              (λ y. let q : i ≡ j = eqb-true i j y in rw q (here ∙ rw not_extra))
              (λ n. a.done i (omega (arith, eqb-false i j n)));
          rest = λ i b l. a.rest i (omega arith) l;
        }
      where
        here : get_or places j 0 ≡ place_in (view_of left) (digest_at right j)
        here = a.rest j (omega arith) below

        not_extra : is_extra (view_of left) (view_of right) j ≡ false
        not_extra = extra_is left right j ∙ ap not (lt-ltb _ (count_of left) (omega (arith, here)))

    pub number_extra : j < max_places → count_of left ≤ get_or places j 0 → NumberedBelow left right (j + 1) (next + 1) (set places j next)
    number_extra few h =
        record {
          size = length-set places j next ∙ a.size;
          free = omega (arith, a.free, count_here (is_extra (view_of left) (view_of right)) j is_extra_lem);
          few = omega (arith, a.few);
          done = λ i l. by_test (eqb i j)
              (λ y. let q : i ≡ j = eqb-true i j y in rw q (get_or-set_same places j next 0 (omega (arith, a.size)) ∙ rw is_extra_lem a.free))
              (λ n. get_or-set_other places j i next 0 (eqb-false i j n) ∙ a.done i (omega (arith, eqb-false i j n)));
          rest = λ i b l. get_or-set_other places j i next 0 (λ e. omega arith) ∙ a.rest i (omega arith) l;
        }
      where
        is_extra_lem : is_extra (view_of left) (view_of right) j ≡ true
        is_extra_lem = extra_is left right j ∙ ap not (le-ltb _ (count_of left) (omega (arith, a.rest j (omega arith) below)))
