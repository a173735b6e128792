-- `interpret` meets its contract: one law for each way out. Assumes nothing.
use mathlib.Core.Path.{◌≡◌, sym, ap, ◌∙◌}
use mathlib.Core.Bool.{true, false}
use Prim.Native.Nat.{◌<◌}
use lib.ListN.{length}
use borrow.Author.Rules.{rules}
use Rattle.table.specs.View.{interpreted}
use Rattle.table.specs.Layout.{count_of, row_at}
use Rattle.table.specs.Form.{in_form}
use Rattle.records.specs.Layout.{buffer_size}
use Rattle.interpret.specs.Steps.{Interpretable}
use Rattle.interpret.proofs.Ways.{way2, way12, way13, way14, way15, way0, ready}
use Rattle.interpret.proofs.interpret.Goals as goal
use Rattle.interpret.proofs.interpret.Goals.{In-Some, In-Some-as_mut_array, Else-count_of-place, Else-is_interpreted}

-- what each test shows
formed : (c : In-Some) → in_form c.in-Some.table.now ≡ true
formed c = rw c.in-Some.ensures.table.0 c.in-Some.ensures.table.1

sized : (c : In-Some-as_mut_array) → length c.in-Some-as_mut_array.records.now ≡ buffer_size
sized c = let w = c.in-Some-as_mut_array.ensures.cases in ap length w.same ∙ w.long

held : (c : Else-count_of-place) → c.args.place < count_of c.in-Some.table.now
held c = rw c.count_of.ensures at c.if-count_of-place.false

unmarked : (c : Else-is_interpreted) → interpreted (row_at c.in-Some.table.now c.args.place) ≡ false
unmarked c = sym c.is_interpreted.ensures ∙ c.if-is_interpreted.false

is_ready : (c : Else-count_of-place) → Interpretable c.in-Some.table.now c.args.place
is_ready c = ready _ _ (formed (goal.at.Else-count_of-place c).In-Some) (held c)

pub returns-in_default : goal.returns-in_default
returns-in_default c = let w = way2 _ _ c.args.place c.in_default.ensures.table in record {
  value = w.0;
  table_after = w.1.0;
  records_after = w.1.1;
}

pub returns-in_default-as_mut_array : goal.returns-in_default-as_mut_array
returns-in_default-as_mut_array c = let w = way12 _ _ c.args.place (formed (goal.at.returns-in_default-as_mut_array c).In-Some) c.in_default-as_mut_array.ensures.cases in record {
  value = rw (← c.in-Some.ensures.table.0) w.0;
  table_after = rw (← c.in-Some.ensures.table.0) w.1.0;
  records_after = rw (← c.in-Some.ensures.table.0) w.1.1;
}

pub returns-then-count_of-place : goal.returns-then-count_of-place
returns-then-count_of-place c = let w = way13 _ _ _ (formed (goal.at.returns-then-count_of-place c).In-Some) (sized (goal.at.returns-then-count_of-place c).In-Some-as_mut_array) (rw c.count_of.ensures at c.if-count_of-place.true) in record {
  value = rw (← c.in-Some.ensures.table.0, ← c.in-Some-as_mut_array.ensures.cases.same) w.0;
  table_after = rw (← c.in-Some.ensures.table.0, ← c.in-Some-as_mut_array.ensures.cases.same) w.1.0;
  records_after = rw (← c.in-Some.ensures.table.0, ← c.in-Some-as_mut_array.ensures.cases.same) w.1.1;
}

pub returns-then-is_interpreted : goal.returns-then-is_interpreted
returns-then-is_interpreted c = let w = way14 _ _ _ (formed (goal.at.returns-then-is_interpreted c).In-Some) (sized (goal.at.returns-then-is_interpreted c).In-Some-as_mut_array) (held (goal.at.returns-then-is_interpreted c).Else-count_of-place) (sym c.is_interpreted.ensures ∙ c.if-is_interpreted.true) in record {
  value = rw (← c.in-Some.ensures.table.0, ← c.in-Some-as_mut_array.ensures.cases.same) w.0;
  table_after = rw (← c.in-Some.ensures.table.0, ← c.in-Some-as_mut_array.ensures.cases.same) w.1.0;
  records_after = rw (← c.in-Some.ensures.table.0, ← c.in-Some-as_mut_array.ensures.cases.same) w.1.1;
}

pub returns-in-Some-first_uninterpreted : goal.returns-in-Some-first_uninterpreted
returns-in-Some-first_uninterpreted c = let w = way15 _ _ _ (formed (goal.at.returns-in-Some-first_uninterpreted c).In-Some) (sized (goal.at.returns-in-Some-first_uninterpreted c).In-Some-as_mut_array) (held (goal.at.returns-in-Some-first_uninterpreted c).Else-count_of-place) (unmarked (goal.at.returns-in-Some-first_uninterpreted c).Else-is_interpreted) _ c.references_at-references.ensures
    _ c.in-Some-first_uninterpreted.ensures in record {
      value = rw (← c.in-Some.ensures.table.0, ← c.in-Some-as_mut_array.ensures.cases.same) w.0;
      table_after = rw (← c.in-Some.ensures.table.0, ← c.in-Some-as_mut_array.ensures.cases.same) w.1.0;
      records_after = rw (← c.in-Some.ensures.table.0, ← c.in-Some-as_mut_array.ensures.cases.same) w.1.1;
    }

pub returns : goal.returns
returns c = let w = way0 _ _ _ (formed (goal.at.returns c).In-Some) (sized (goal.at.returns c).In-Some-as_mut_array) (held (goal.at.returns c).Else-count_of-place) (unmarked (goal.at.returns c).Else-is_interpreted) _ c.references_at-references.ensures
    c.in_default-first_uninterpreted.ensures _ _ _ c.set_mark.ensures c.place_records-part.ensures c.put_part.ensures in record {
      value = rw (← c.in-Some.ensures.table.0, ← c.in-Some-as_mut_array.ensures.cases.same) w.0;
      table_after = rw (← c.in-Some.ensures.table.0, ← c.in-Some-as_mut_array.ensures.cases.same) w.1.0;
      records_after = rw (← c.in-Some.ensures.table.0, ← c.in-Some-as_mut_array.ensures.cases.same) w.1.1;
    }

pub is_interpreted-requires : goal.is_interpreted-requires
is_interpreted-requires c = let r = is_ready (goal.at.is_interpreted-requires c).Else-count_of-place in search rules

pub references_at-references-requires : goal.references_at-references-requires
references_at-references-requires c = let r = is_ready (goal.at.references_at-references-requires c).Else-count_of-place in search rules

pub first_uninterpreted-requires : goal.first_uninterpreted-requires
first_uninterpreted-requires c = let r = is_ready (goal.at.first_uninterpreted-requires c).Else-count_of-place in search rules

pub place_records-part-requires : goal.place_records-part-requires
place_records-part-requires c = is_ready (goal.at.place_records-part-requires c).Else-count_of-place

pub put_part-requires : goal.put_part-requires
put_part-requires c = let r = is_ready (goal.at.put_part-requires c).Else-count_of-place in search rules

pub set_mark-requires : goal.set_mark-requires
set_mark-requires c = let r = is_ready (goal.at.set_mark-requires c).Else-count_of-place in search rules
