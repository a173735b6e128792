-- `write_next` meets its contract: check 30, what is picked, then check 17, then the block. Assumes nothing.
use mathlib.Core.Path.{◌∙◌}
use Prim.Native.Nat.{◌≤◌}
use native.Mathlib.Omega.{arith}
use Rattle.base.specs.Mask.{in_mask}
use Rattle.table.specs.Layout.{view_of}
use Rattle.build.specs.Building.{max_sequence, next_sequence}
use Rattle.build.proofs.NextBytes.{way_past, way_short, way_written}
use Rattle.build.proofs.write_next.Goals as goal
use Rattle.build.proofs.write_next.Goals.{Else-next-gt-MAX_SEQUENCE}

last : (c : Else-next-gt-MAX_SEQUENCE) → let own = c.args.own in next_sequence (in_mask own.seen) (view_of own.table.now) own.site ≤ max_sequence
last c = omega (arith, c.next_sequence-next.ensures, c.if-next-gt-MAX_SEQUENCE.false)

pub returns-then-next-gt-MAX_SEQUENCE : goal.returns-then-next-gt-MAX_SEQUENCE
returns-then-next-gt-MAX_SEQUENCE c = let a = c.args in
    let w = way_past (in_mask a.own.seen) a.own.table.now a.own.site a.requests.now a.output.now (omega (arith, c.next_sequence-next.ensures, c.if-next-gt-MAX_SEQUENCE.true)) in
    record {
      value = w.0;
      output_after = w.1;
    }

pub returns-then-output-needed : goal.returns-then-output-needed
returns-then-output-needed c = let a = c.args in
    let w =
    way_short (in_mask a.own.seen) a.own.table.now a.own.site a.requests.now c.requires.0.formed c.requires.1 a.output.now _ (c.bytes-references.ensures ∙ c.references-picked.ensures)
    (last (goal.at.returns-then-output-needed c).Else-next-gt-MAX_SEQUENCE) c.if-output-needed.true in
    record {
      value = w.0;
      output_after = w.1;
    }

pub returns : goal.returns
returns c = let a = c.args in
    let w =
    way_written (in_mask a.own.seen) a.own.table.now a.own.site a.requests.now c.requires.0.formed c.requires.1 a.output.now _ (c.bytes-references.ensures ∙ c.references-picked.ensures)
    c.next_sequence-next.result c.next_sequence-next.ensures c.if-next-gt-MAX_SEQUENCE.false c.if-output-needed.false _ c.write_block.ensures in
    record {
      value = w.0;
      output_after = w.1;
    }
