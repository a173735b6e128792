-- The result, told without the order in which it is made. Assumes nothing.
use mathlib.Core.Path.{◌≡◌, sym, ◌∙◌}
use mathlib.Core.Bool.{Bool, true, ◌||◌}
use mathlib.Core.Logic.{inl, inr}
use mathlib.Core.List.{List}
use Prim.Native.Nat.{ℕ, ◌≤◌, ◌<◌}
use native.Mathlib.Omega.{arith}
use lib.Dec.{ltb}
use borrow.Author.Tests.{eqb-true, eqb-false, eq-eqb, ltb-true, ltb-false}
use Rattle.base.specs.Bytes.{Bytes}
use Rattle.base.proofs.Tests.{by_test, not_true_false, same_tests, or_cases, or_true}
use Rattle.table.specs.View.{max_places, interpreted}
use Rattle.table.specs.Layout.{count_of, digest_at, mark_at, row_at, view_of}
use Rattle.table.proofs.InForm.{table_form, formed_row, one_place}
use Rattle.join.specs.Join.{refers_by, is_extra, place_in, interpreted_at, joined_table, joined_records}
use Rattle.join.specs.Promises.{SameFields, place_behind, Shape, Copies}
use Rattle.join.specs.Steps.{JoinableSides}
use Rattle.join.proofs.References.{place_has, interpreted_from, by_from}
use Rattle.join.proofs.TableInvariant.{Carried, TableInvariant}
use Rattle.join.proofs.PlacesInvariant.{extra_below, extra_at}
use Rattle.join.proofs.ThirdBuffer.{whole, from_left, marked_by, records_length, records_part, records_rest}

module _ (left right : Bytes) (left_records right_records third : List ℕ) (p : JoinableSides left right left_records right_records third) where
  abbrev t : Bytes
  t = joined_table left right

  abbrev n : ℕ
  n = count_of left

  abbrev m : ℕ
  m = count_of right

  abbrev c : ℕ
  c = count_of t

  abbrev extra : ℕ → Bool
  extra j = is_extra (view_of left) (view_of right) j

  all : TableInvariant left right p.joinable m t
  all = whole left right left_records right_records third p

  few : c ≤ max_places
  few = (table_form t all.formed).held.fits

  -- the place of a block that is not in the left
  module _ (j : ℕ) (h : j < m) (y : extra j ≡ true) where
    abbrev q : ℕ
    q = place_behind left right j

    below : q < c
    below = extra_below left right p.joinable m t all j h y

    digest_is : digest_at t q ≡ digest_at right j
    digest_is = extra_at left right p.joinable m t all j h y

    its : Carried left right p.joinable t q j
    its = all.same q j below h digest_is

    fields : SameFields t q right j
    fields = record { digest = digest_is; site = its.site; sequence = its.sequence; request = its.request }

    refers : (a : ℕ) → a < c → (row_at t q).refers_to a ≡ refers_by (view_of right) j (digest_at t a)
    refers a l = by_test (ltb a q) (λ o. its.refers a (ltb-true a q o)) (λ o.
        not_true_false ((row_at t q).refers_to a) (λ e. absurd (omega (arith, (formed_row t all.formed q below).lower a (omega (arith, few)) e, ltb-false a q o)))
        ∙ sym (not_true_false (refers_by (view_of right) j (digest_at t a)) (λ e.
        let i = by_from (view_of right) j (digest_at t a) e in
        let u = its.reaches i.0 i.1 i.2 in
        let z : u.0 ≡ a = one_place t all.formed u.0 a (omega (arith, u.1, below)) l (u.2 ∙ i.3) in
        absurd (omega (arith, u.1, ltb-false a q o)))))

  -- ---- marks

  module _ (q : ℕ) (h : q < c) where
    abbrev in_left : Bool
    in_left = interpreted_at (view_of left) (place_in (view_of left) (digest_at t q))

    abbrev in_right : Bool
    in_right = interpreted_at (view_of right) (place_in (view_of right) (digest_at t q))

    tested : mark_at t q ≡ 1 → (in_left || in_right) ≡ true
    tested e = elim (marked_by left right left_records right_records third p q h e) [
      | inl y ↦ rw y
      | inr y ↦ rw y (or_true in_left)
    ]

    marked : (in_left || in_right) ≡ true → mark_at t q ≡ 1
    marked e = elim (or_cases in_left in_right e) [
      | inl y ↦ let o = from_left left right left_records right_records third p q h y in all.still q o.below o.mark
      | inr y ↦ let i = interpreted_from (view_of right) (place_in (view_of right) (digest_at t q)) y in
          (all.same q (place_in (view_of right) (digest_at t q)) h i.0 (sym (place_has (view_of right) (digest_at t q) i.0))).mark i.1
    ]

    marks : interpreted (row_at t q) ≡ (in_left || in_right)
    marks = same_tests (interpreted (row_at t q)) (in_left || in_right) (λ y. tested (eqb-true (mark_at t q) 1 y)) (λ y. eq-eqb (mark_at t q) 1 (marked y))

  pub shape : Shape left right t
  shape =
      record {
        setup = all.setup;
        retired = all.retired;
        count = all.count;
        first = λ q h. let u = all.kept q h in record { digest = u.digest; site = u.site; sequence = u.sequence; request = u.request };
        first_refers = λ q a h l. (all.kept q h).refers_to a l;
        behind = fields;
        behind_refers = λ j a h y l. refers j h y a l;
        marks = marks;
      }

  pub copies : Copies left right left_records right_records third t (joined_records left right left_records right_records third)
  copies =
      record {
        size = records_length left right left_records right_records third p ∙ sym p.size;
        handed = λ q h y. records_part left right left_records right_records third p q h (eqb-true (mark_at t q) 1 y);
        rest = λ q h bare. records_rest left right left_records right_records third p q (λ l. eqb-false (mark_at t q) 1 (bare l));
      }
