-- Joining keeps its promises. Assumes nothing.
use mathlib.Core.Path.{◌≡◌, sym, ◌∙◌, subst}
use mathlib.Core.Bool.{true}
use mathlib.Core.Logic.{◌≢◌}
use mathlib.Core.List.{List}
use Prim.Native.Nat.{ℕ}
use lib.Dec.{eqb}
use borrow.Author.Tests.{eqb-true, eqb-false, ne_eqb}
use Rattle.base.specs.Bytes.{Bytes}
use Rattle.base.proofs.Tests.{by_test}
use Rattle.table.specs.Form.{in_form}
use Rattle.join.specs.Join.{join_answer, joined_table, joined_records, joined, copied}
use Rattle.join.specs.Promises.{Shape, Copies, Promises}
use Rattle.join.specs.Steps.{JoinableSides}
use Rattle.join.proofs.CheckedJoin.{passes, joined_passed, copied_passed, value_passed}
use Rattle.join.proofs.ThirdBuffer.{whole}
use Rattle.join.proofs.Causes.{causes}
use Rattle.join.proofs.ResultShape.{shape, copies}

module _ (left right : Bytes) (left_records right_records third : List ℕ) where
  abbrev refusal : ℕ
  refusal = (join_answer left right left_records right_records third).refusal

  abbrev t : Bytes
  t = joined left right left_records right_records third

  abbrev b : List ℕ
  b = copied left right left_records right_records third

  refused : refusal ≢ 0 → (t ≡ left) × (b ≡ third)
  unfolding joined copied
  refused n = let z = ne_eqb refusal 0 n in (rw z, rw z)

  module _ (e : refusal ≡ 0) where
    p : JoinableSides left right left_records right_records third
    p = passes left right left_records right_records third e

    table_is : joined_table left right ≡ t
    table_is = sym (joined_passed left right left_records right_records third e)

    shaped : Shape left right t
    shaped = subst (Shape left right) table_is (shape left right left_records right_records third p)

    copied_so : Copies left right left_records right_records third t b
    copied_so =
        subst (λ (x : List ℕ). Copies left right left_records right_records third t x) (sym (copied_passed left right left_records right_records third e))
        (subst (λ (x : Bytes). Copies left right left_records right_records third x (joined_records left right left_records right_records third)) table_is (copies left right left_records right_records third p))

    formed : in_form t ≡ true
    formed = subst (λ (x : Bytes). in_form x ≡ true) table_is (whole left right left_records right_records third p).formed

  kept : in_form left ≡ true → in_form t ≡ true
  kept f = by_test (eqb refusal 0)
      (λ y. formed (eqb-true refusal 0 y))
      (λ n. subst (λ (x : Bytes). in_form x ≡ true) (sym (refused (eqb-false refusal 0 n)).0) f)

pub promises : Promises
promises left right left_records right_records third =
    record {
      causes = causes left right left_records right_records third;
      refused = refused left right left_records right_records third;
      kept = kept left right left_records right_records third;
      counted = λ e. value_passed left right left_records right_records third e ∙ sym (shaped left right left_records right_records third e).count;
      shape = shaped left right left_records right_records third;
      copies = copied_so left right left_records right_records third;
    }
