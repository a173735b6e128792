-- `arrive` meets its contract, one way out after the other. Assumes nothing.
use mathlib.Core.Path.{◌≡◌, refl, ◌∙◌}
use mathlib.Core.Logic.{◌≢◌}
use Prim.Native.Nat.{◌<◌}
use native.Mathlib.Omega.{arith}
use lib.ListN.{length}
use Rattle.answer.specs.Refusals.{refusal_number}
use Rattle.answer.specs.declared.Refusal.{Refusal}
use Rattle.answer.proofs.Refusals.{numbered}
use Rattle.block.specs.Promises.{Shaped}
use Rattle.table.specs.View.{max_places}
use Rattle.records.specs.Layout.{buffer_size}
use Rattle.run.specs.Run.{Site}
use Rattle.report.proofs.ArrivalStep.{refused_table, refused_records, refused_lines, taken_table, taken_records, uninterpreted_lines, shape_there, place_there, delivered_lines}
use Rattle.report.proofs.arrival.arrive.Goals as goal
use Rattle.report.proofs.arrival.arrive.Goals.{Start, After-interpret, In_default}

some : (refusal : Refusal) → refusal_number refusal ≢ 0
some refusal e = omega (arith, numbered refusal)

abbrev site : Start → Site
site c = record { table = c.args.table.now; records = c.args.records.now }

pub returns-in-Err : goal.returns-in-Err
returns-in-Err c =
    let a = c.args in
    let x = site (goal.at.returns-in-Err c).Start in
    let e = c.in-Err.ensures in record {
      value = c.refused.ensures ∙ refused_lines x a.block.now a.verdict a.arrival _ _ e.value e.table_after (some _);
      table_after = refused_table x a.block.now a.verdict a.arrival _ _ e.value e.table_after (some _);
      records_after = refused_records x a.block.now a.verdict a.arrival _ _ e.value e.table_after (some _);
    }

pub returns-in-Err-interpret : goal.returns-in-Err-interpret
returns-in-Err-interpret c =
    let a = c.args in
    let x = site (goal.at.returns-in-Err-interpret c).Start in
    let e = c.in-Ok.ensures in
    let i = c.in-Err-interpret.ensures in record {
      value = c.refused-in-Err-interpret.ensures ∙ uninterpreted_lines x a.block.now a.verdict a.arrival _ _ e.value e.table_after refl _ _ _ i.value i.table_after i.records_after (some _);
      table_after = taken_table x a.block.now a.verdict a.arrival _ _ e.value e.table_after refl _ _ _ i.value i.table_after i.records_after;
      records_after = taken_records x a.block.now a.verdict a.arrival _ _ e.value e.table_after refl _ _ _ i.value i.table_after i.records_after;
    }

shape : (c : In_default) → Shaped c.args.block.now
shape c =
    let a = c.args in
    let e = c.in-Ok.ensures in
    let i = c.in_default.ensures in
    shape_there (site (goal.at.In_default c).Start) a.block.now a.verdict a.arrival _ _ e.value e.table_after refl _ _ _ i.value i.table_after i.records_after

size_and_place : (c : In_default) → (length c.interpret.new.records ≡ buffer_size) × (c.in-Ok.place < max_places)
size_and_place c =
    let a = c.args in
    let e = c.in-Ok.ensures in
    let i = c.in_default.ensures in
    place_there (site (goal.at.In_default c).Start) a.block.now a.verdict a.arrival _ _ e.value e.table_after refl _ _ _ i.value i.table_after i.records_after refl

pub unreachable-requires : goal.unreachable-requires
unreachable-requires c = c.in_default-as_array.ensures.cases (size_and_place (goal.at.unreachable-requires c).In_default).0

pub tested-shaped-requires : goal.tested-shaped-requires
tested-shaped-requires c = shape (goal.at.tested-shaped-requires c).In_default

pub delivery_lines-requires : goal.delivery_lines-requires
delivery_lines-requires c = (size_and_place (goal.at.delivery_lines-requires c).In_default).1

pub returns : goal.returns
returns c =
    let a = c.args in
    let x = site (goal.at.returns c).Start in
    let e = c.in-Ok.ensures in
    let i = c.in_default.ensures in record {
      value = c.delivery_lines.ensures ∙ rw (c.site.ensures, c.sequence.ensures, c.tested-shaped.ensures, c.in-Some.ensures.cases.same)
          (delivered_lines x a.block.now a.verdict a.arrival _ _ e.value e.table_after refl _ _ _ i.value i.table_after i.records_after refl);
      table_after = taken_table x a.block.now a.verdict a.arrival _ _ e.value e.table_after refl _ _ _ i.value i.table_after i.records_after;
      records_after = taken_records x a.block.now a.verdict a.arrival _ _ e.value e.table_after refl _ _ _ i.value i.table_after i.records_after;
    }
