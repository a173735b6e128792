-- `join_blocks` meets its contract: one law for each way out of the checks of the blocks. Assumes nothing.
use mathlib.Core.Path.{◌≡◌, refl, ◌∙◌}
use native.Mathlib.Omega.{arith}
use Rattle.answer.specs.Checks.{success}
use Rattle.join.specs.Steps.{blocks_answer}
use Rattle.join.proofs.Ways.{way24, way25, way0}
use Rattle.join.proofs.Call.{passed, blocks_refused, blocks_joined}
use Rattle.join.proofs.join_blocks.Goals as goal
use Rattle.join.proofs.join_blocks.Goals.{Else-numbering-gt-MAX_PLACES}

-- ---- a check refuses

pub returns-in-Some : goal.returns-in-Some
returns-in-Some c =
    let a = c.args in
    let e = way24 a.left.now a.right.now _ c.in-Some.ensures in
    let w = blocks_refused a.left.now a.right.now a.left_records.now a.right_records.now a.third.now _ e (λ z. absurd (omega (arith, z))) in
    record { value = e; left_after = w.0; third_after = w.1 }

pub returns-then-numbering-gt-MAX_PLACES : goal.returns-then-numbering-gt-MAX_PLACES
returns-then-numbering-gt-MAX_PLACES c =
    let a = c.args in
    let e = way25 a.left.now a.right.now c.in_default.ensures _ c.number_extras-numbering.ensures.count c.if-numbering-gt-MAX_PLACES.true in
    let w = blocks_refused a.left.now a.right.now a.left_records.now a.right_records.now a.third.now _ e (λ z. absurd (omega (arith, z))) in
    record { value = e; left_after = w.0; third_after = w.1 }

-- ---- they hold

hold : (c : Else-numbering-gt-MAX_PLACES) → let a = c.args in success c.number_extras-numbering.result.count ≡ blocks_answer a.left.now a.right.now
hold c = way0 c.args.left.now c.args.right.now c.in_default.ensures _ c.number_extras-numbering.ensures.count c.if-numbering-gt-MAX_PLACES.false

pub invariant_of-sides : goal.invariant_of-sides
invariant_of-sides c =
    record {
      joinable = passed c.args.left.now c.args.right.now c.requires _ (hold (goal.at.invariant_of-sides c).Else-numbering-gt-MAX_PLACES) refl;
      left_found = c.place_all.ensures;
      numbered = c.number_extras-numbering.ensures.numbered;
    }

pub returns : goal.returns
returns c =
    let a = c.args in
    let e = hold (goal.at.returns c).Else-numbering-gt-MAX_PLACES in
    let w = blocks_joined a.left.now a.right.now a.left_records.now a.right_records.now a.third.now _ e refl in
    record { value = e; left_after = c.join_rows.ensures ∙ w.0; third_after = c.copy_parts.ensures ∙ w.1 }
