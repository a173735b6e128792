-- `retire` meets its contract: one law for each way out. Assumes nothing.
use mathlib.Core.Path.{◌≡◌, sym, ap, ◌∙◌}
use mathlib.Core.Bool.{true}
use Prim.Native.Nat.{suc, ◌<◌}
use native.Mathlib.Omega.{arith}
use lib.ListN.{length}
use Rattle.table.specs.View.{max_places}
use Rattle.table.specs.Layout.{count_of}
use Rattle.table.specs.Form.{in_form}
use Rattle.table.proofs.InForm.{formed_places}
use Rattle.records.specs.Layout.{buffer_size}
use Rattle.records.specs.Moving.{moved_parts}
use Rattle.retire.proofs.Ways.{out2, out12, out13, out29, out0}
use Rattle.retire.proofs.retire.Goals as goal
use Rattle.retire.proofs.retire.Goals.{In-Some, In-Some-as_mut_array, In-Some-checked_sub}

-- what each test shows
formed : (c : In-Some) → in_form c.in-Some.table.now ≡ true
formed c = rw c.in-Some.ensures.table.0 c.in-Some.ensures.table.1

sized : (c : In-Some-as_mut_array) → length c.in-Some-as_mut_array.records.now ≡ buffer_size
sized c = let w = c.in-Some-as_mut_array.ensures.cases in ap length w.same ∙ w.long

counted : (c : In-Some-checked_sub) → count_of c.in-Some.table.now ≡ suc c.in-Some-checked_sub.left
counted c = let h = c.in-Some-checked_sub.ensures in omega (arith, h.0, h.1, c.count_of-count.ensures)

place : (c : In-Some-checked_sub) → c.in-Some-checked_sub.left < max_places
place c = omega (arith, counted c, formed_places _ (formed (goal.at.In-Some-checked_sub c).In-Some))

pub returns-in_default : goal.returns-in_default
returns-in_default c = let w = out2 _ _ c.in_default.ensures.table in record {
  value = w.0;
  table_after = w.1.0;
  records_after = w.1.1;
}

pub returns-in_default-as_mut_array : goal.returns-in_default-as_mut_array
returns-in_default-as_mut_array c =
    let w = out12 _ _ (formed (goal.at.returns-in_default-as_mut_array c).In-Some) c.in_default-as_mut_array.ensures.cases in record {
      value = rw (← c.in-Some.ensures.table.0) w.0;
      table_after = rw (← c.in-Some.ensures.table.0) w.1.0;
      records_after = rw (← c.in-Some.ensures.table.0) w.1.1;
    }

pub returns-in_default-checked_sub : goal.returns-in_default-checked_sub
returns-in_default-checked_sub c =
    let w = out13 _ _ (formed (goal.at.returns-in_default-checked_sub c).In-Some) (sized (goal.at.returns-in_default-checked_sub c).In-Some-as_mut_array) (omega (arith, c.in_default-checked_sub.ensures, c.count_of-count.ensures)) in record {
      value = rw (← c.in-Some.ensures.table.0, ← c.in-Some-as_mut_array.ensures.cases.same) w.0;
      table_after = rw (← c.in-Some.ensures.table.0, ← c.in-Some-as_mut_array.ensures.cases.same) w.1.0;
      records_after = rw (← c.in-Some.ensures.table.0, ← c.in-Some-as_mut_array.ensures.cases.same) w.1.1;
    }

pub may_retire-requires : goal.may_retire-requires
may_retire-requires c =
    let h = counted (goal.at.may_retire-requires c).In-Some-checked_sub in
    let p = place (goal.at.may_retire-requires c).In-Some-checked_sub in
    (omega (arith, h, c.count_of-count.ensures), omega (arith, c.count_of-count.ensures), c.count_of-count.ensures)

pub returns-then-not-may_retire : goal.returns-then-not-may_retire
returns-then-not-may_retire c =
    let at = goal.at.returns-then-not-may_retire c in
    let w = out29 _ _ (formed at.In-Some) (sized at.In-Some-as_mut_array) _ (counted at.In-Some-checked_sub) (sym c.may_retire.ensures ∙ c.if-not-may_retire.true) in record {
      value = rw (← c.in-Some.ensures.table.0, ← c.in-Some-as_mut_array.ensures.cases.same) w.0;
      table_after = rw (← c.in-Some.ensures.table.0, ← c.in-Some-as_mut_array.ensures.cases.same) w.1.0;
      records_after = rw (← c.in-Some.ensures.table.0, ← c.in-Some-as_mut_array.ensures.cases.same) w.1.1;
    }

pub move_parts-requires : goal.move_parts-requires
move_parts-requires c =
    let at = goal.at.move_parts-requires c in
    (omega (arith, counted at.In-Some-checked_sub), omega (arith, place at.In-Some-checked_sub, counted at.In-Some-checked_sub))

pub returns : goal.returns
returns c =
    let at = goal.at.returns c in
    let w = out0 _ _ (formed at.In-Some) (sized at.In-Some-as_mut_array) _ (counted at.In-Some-checked_sub) (sym c.may_retire.ensures ∙ c.if-not-may_retire.false) _ _ c.move_down.ensures
    (c.move_parts.ensures ∙ ap (moved_parts _) c.count_of-count.ensures) in record {
      value = rw (← c.in-Some.ensures.table.0, ← c.in-Some-as_mut_array.ensures.cases.same) w.0;
      table_after = rw (← c.in-Some.ensures.table.0, ← c.in-Some-as_mut_array.ensures.cases.same) w.1.0;
      records_after = rw (← c.in-Some.ensures.table.0, ← c.in-Some-as_mut_array.ensures.cases.same) w.1.1;
    }

pub move_down-requires : goal.move_down-requires
move_down-requires c = let at = goal.at.move_down-requires c in (counted at.In-Some-checked_sub, place at.In-Some-checked_sub)
