-- `join` meets its contract: the form of the two tables, the checks of the two sides, then those of their blocks. Assumes nothing.
use mathlib.Core.Path.{◌≡◌, refl, ap, ◌∙◌}
use native.Mathlib.Omega.{arith}
use lib.ListN.{length}
use borrow.Author.Rules.{rules}
use Rattle.std.specs.Prelude.{Err}
use Rattle.answer.proofs.Refusals.{numbered}
use Rattle.join.specs.Promises.{BothFormed, BuffersSized, OneSetup}
use Rattle.join.proofs.Ways.{way2, way2_right, way12_left, way12_right, way12}
use Rattle.join.proofs.Call.{refused, later_refused, tables_refused, one_setup_of, same_setup_of, decided}
use Rattle.join.proofs.join.Goals as goal
use Rattle.join.proofs.join.Goals.{In-Some-formed, In-Some-as_mut_array, In_ok-check_sides}

formed : (c : In-Some-formed) → BothFormed c.in-Some.left.now c.in-Some-formed.right.now
formed c = record {
  left_formed = rw c.in-Some.ensures.table.0 c.in-Some.ensures.table.1;
  right_formed = rw c.in-Some-formed.ensures.0 c.in-Some-formed.ensures.1;
}

pub returns-in_default : goal.returns-in_default
returns-in_default c = let a = c.args in
    let w = refused a.left.now a.right.now a.left_records.now a.right_records.now a.third.now _ (way2 a.left.now a.right.now (length a.left_records.now) (length a.right_records.now) (length a.third.now) c.in_default.ensures.table) (λ z. absurd (omega (arith, z))) in record {
      value = w.0;
      left_after = w.1.0;
      third_after = w.1.1;
    }

pub returns-in_default-formed : goal.returns-in_default-formed
returns-in_default-formed c = let a = c.args in
    let w = refused a.left.now a.right.now a.left_records.now a.right_records.now a.third.now _ (way2_right a.left.now a.right.now (length a.left_records.now) (length a.right_records.now) (length a.third.now) c.in-Some.ensures.table.1 c.in_default-formed.ensures) (λ z. absurd (omega (arith, z))) in record {
      value = w.0;
      left_after = c.in-Some.ensures.table.0 ∙ w.1.0;
      third_after = w.1.1;
    }

pub returns-in_default-as_array : goal.returns-in_default-as_array
returns-in_default-as_array c = let a = c.args in
    let w = later_refused c.in-Some.left.now c.in-Some-formed.right.now a.left_records.now a.right_records.now a.third.now (formed (goal.at.returns-in_default-as_array c).In-Some-formed) _
    (way12_left c.in-Some.left.now c.in-Some-formed.right.now (length a.left_records.now) (length a.right_records.now) (length a.third.now) c.in_default-as_array.ensures.cases) (λ z. absurd (omega (arith, z))) in record {
      value = rw (← c.in-Some.ensures.table.0, ← c.in-Some-formed.ensures.0) w.0;
      left_after = rw (← c.in-Some.ensures.table.0, ← c.in-Some-formed.ensures.0) w.1.0;
      third_after = rw (← c.in-Some.ensures.table.0, ← c.in-Some-formed.ensures.0) w.1.1;
    }

pub returns-in_default-as_array-2 : goal.returns-in_default-as_array-2
returns-in_default-as_array-2 c = let a = c.args in
    let w = later_refused c.in-Some.left.now c.in-Some-formed.right.now a.left_records.now a.right_records.now a.third.now (formed (goal.at.returns-in_default-as_array-2 c).In-Some-formed) _
    (way12_right c.in-Some.left.now c.in-Some-formed.right.now (length a.left_records.now) (length a.right_records.now) (length a.third.now) c.in-Some-as_array.ensures.cases.long c.in_default-as_array-2.ensures.cases) (λ z. absurd (omega (arith, z))) in record {
      value = rw (← c.in-Some.ensures.table.0, ← c.in-Some-formed.ensures.0) w.0;
      left_after = rw (← c.in-Some.ensures.table.0, ← c.in-Some-formed.ensures.0) w.1.0;
      third_after = rw (← c.in-Some.ensures.table.0, ← c.in-Some-formed.ensures.0) w.1.1;
    }

pub returns-in_default-as_mut_array : goal.returns-in_default-as_mut_array
returns-in_default-as_mut_array c = let a = c.args in
    let w = later_refused c.in-Some.left.now c.in-Some-formed.right.now a.left_records.now a.right_records.now a.third.now (formed (goal.at.returns-in_default-as_mut_array c).In-Some-formed) _
    (way12 c.in-Some.left.now c.in-Some-formed.right.now (length a.left_records.now) (length a.right_records.now) (length a.third.now) c.in-Some-as_array.ensures.cases.long c.in-Some-as_array-2.ensures.cases.long c.in_default-as_mut_array.ensures.cases) (λ z. absurd (omega (arith, z))) in record {
      value = rw (← c.in-Some.ensures.table.0, ← c.in-Some-formed.ensures.0) w.0;
      left_after = rw (← c.in-Some.ensures.table.0, ← c.in-Some-formed.ensures.0) w.1.0;
      third_after = rw (← c.in-Some.ensures.table.0, ← c.in-Some-formed.ensures.0) w.1.1;
    }

sized : (c : In-Some-as_mut_array) → BuffersSized c.in-Some.left.now c.in-Some-formed.right.now c.in-Some-as_array.left_records.now c.in-Some-as_array-2.right_records.now c.in-Some-as_mut_array.third.now
sized c =
    let f = formed (goal.at.In-Some-as_mut_array c).In-Some-formed in
    let l = c.in-Some-as_array.ensures.cases in
    let r = c.in-Some-as_array-2.ensures.cases in
    let t = c.in-Some-as_mut_array.ensures.cases in
    record {
      left_formed = f.left_formed;
      right_formed = f.right_formed;
      left_size = ap length l.same ∙ l.long;
      right_size = ap length r.same ∙ r.long;
      size = ap length t.same ∙ t.long;
    }

pub returns-in_err-check_sides : goal.returns-in_err-check_sides
returns-in_err-check_sides c =
    let refusal = c.in_err-check_sides.field-0.0 in
    let e : c.from_residual.result ≡ Err refusal = search rules in
    let w = tables_refused c.in-Some.left.now c.in-Some-formed.right.now c.in-Some-as_array.left_records.now c.in-Some-as_array-2.right_records.now c.in-Some-as_mut_array.third.now
    (sized (goal.at.returns-in_err-check_sides c).In-Some-as_mut_array) _ c.in_err-check_sides.ensures (λ z. absurd (omega (arith, numbered refusal))) in record {
      value = rw (← c.in-Some.ensures.table.0, ← c.in-Some-formed.ensures.0, ← c.in-Some-as_array.ensures.cases.same, ← c.in-Some-as_array-2.ensures.cases.same, ← c.in-Some-as_mut_array.ensures.cases.same, e) w.0;
      left_after = rw (← c.in-Some.ensures.table.0, ← c.in-Some-formed.ensures.0, ← c.in-Some-as_array.ensures.cases.same, ← c.in-Some-as_array-2.ensures.cases.same, ← c.in-Some-as_mut_array.ensures.cases.same) w.1.0;
      third_after = rw (← c.in-Some.ensures.table.0, ← c.in-Some-formed.ensures.0, ← c.in-Some-as_array.ensures.cases.same, ← c.in-Some-as_array-2.ensures.cases.same, ← c.in-Some-as_mut_array.ensures.cases.same) w.1.1;
    }

one_setup : (c : In_ok-check_sides) → OneSetup c.in-Some.left.now c.in-Some-formed.right.now c.in-Some-as_array.left_records.now c.in-Some-as_array-2.right_records.now c.in-Some-as_mut_array.third.now
one_setup c =
    one_setup_of c.in-Some.left.now c.in-Some-formed.right.now c.in-Some-as_array.left_records.now c.in-Some-as_array-2.right_records.now c.in-Some-as_mut_array.third.now
    (sized (goal.at.In_ok-check_sides c).In-Some-as_mut_array) _ c.in_ok-check_sides.ensures refl

pub join_blocks-requires : goal.join_blocks-requires
join_blocks-requires c =
    same_setup_of c.in-Some.left.now c.in-Some-formed.right.now c.in-Some-as_array.left_records.now c.in-Some-as_array-2.right_records.now c.in-Some-as_mut_array.third.now
    (one_setup (goal.at.join_blocks-requires c).In_ok-check_sides)

pub returns : goal.returns
returns c =
    let e = c.join_blocks.ensures in
    let w = decided c.in-Some.left.now c.in-Some-formed.right.now c.in-Some-as_array.left_records.now c.in-Some-as_array-2.right_records.now c.in-Some-as_mut_array.third.now
    (one_setup (goal.at.returns c).In_ok-check_sides) _ _ _ e.value e.left_after e.third_after in record {
      value = rw (← c.in-Some.ensures.table.0, ← c.in-Some-formed.ensures.0, ← c.in-Some-as_array.ensures.cases.same, ← c.in-Some-as_array-2.ensures.cases.same, ← c.in-Some-as_mut_array.ensures.cases.same) w.0;
      left_after = rw (← c.in-Some.ensures.table.0, ← c.in-Some-formed.ensures.0, ← c.in-Some-as_array.ensures.cases.same, ← c.in-Some-as_array-2.ensures.cases.same, ← c.in-Some-as_mut_array.ensures.cases.same) w.1.0;
      third_after = rw (← c.in-Some.ensures.table.0, ← c.in-Some-formed.ensures.0, ← c.in-Some-as_array.ensures.cases.same, ← c.in-Some-as_array-2.ensures.cases.same, ← c.in-Some-as_mut_array.ensures.cases.same) w.1.1;
    }
