use mathlib.Core.Path.{◌≡◌, refl, sym, ap, ◌∙◌}
use native.Mathlib.Omega.{arith}
use lib.Seq.{take_all}
use borrow.Author.Rules.{rules}
use Rattle.base.specs.List.{list_below}
use Rattle.base.specs.Bytes.{concat}
use Rattle.setup.specs.Setup.{slot_count}
use Rattle.records.specs.Layout.{flatten, part_size, numbers_of}
use Rattle.records.proofs.EntryCounts.{held_sized}
use Rattle.records.proofs.RecordNumbers.{flatten_length}
use Rattle.records.proofs.Parts.{put_more}
use Rattle.interpret.proofs.place_records.Invariants.{numbers_in}
use Rattle.interpret.proofs.place_records.Goals as goal

pub loop-slot-init : goal.loop-slot-init
unfolding concat list_below
loop-slot-init c = (refl, refl)

pub loop-slot-preserved : goal.loop-slot-preserved
loop-slot-preserved c =
    let l = c.loop-slot in
    let a = c.args in (
      search rules,
      put_more (numbers_in a.table.now a.place a.records.now) l.out _ _ l.slot (omega arith) l.invariant.1 (ap flatten c.slot_record-state.ensures)
          (flatten_length _ (held_sized _ c.slot_record-state.type_inv)) c.put_record.ensures,
    )

pub returns : goal.returns
unfolding numbers_of
returns c = let l = c.loop-slot in let e : l.slot ≡ slot_count = omega arith in sym (take_all part_size l.out (omega arith)) ∙ (rw e at l.invariant.1)
