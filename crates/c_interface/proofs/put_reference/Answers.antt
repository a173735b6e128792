-- `put_reference` meets its contract: one law for each way out. Assumes nothing.
use mathlib.Core.Path.{◌≡◌, ap, sym, ◌∙◌}
use mathlib.Core.Bool.{false}
use mathlib.Core.List.{[]}
use Prim.Native.Nat.{ℕ, ◌+◌, ◌*◌, ◌≤◌, ◌<◌}
use native.Mathlib.Omega.{arith}
use lib.ListN.{length}
use borrow.Author.Tests.{le-leb, lt-leb}
use Rattle.std.specs.Prelude.{Ok, Err}
use Rattle.std.proofs.lemmas.Result.{err_from_is_err_and}
use Rattle.base.specs.Bytes.{Bytes}
use Rattle.answer.specs.Checks.{refused}
use Rattle.answer.specs.Refusals.{refusal_number, refusal_value}
use Rattle.answer.specs.declared.Answer.{Answer}
use Rattle.answer.specs.declared.Refusal.{Refusal}
use Rattle.block.specs.Limits.{reference_size}
use Rattle.block.specs.Layout.{reference_list, reference_at}
use Rattle.block.specs.Reading.{well_shaped, reading}
use Rattle.block.specs.declared.Fields.{Fields}
use Rattle.block.proofs.Shape.{reference_list_length}
use Rattle.block.proofs.Acceptance.{reading_accepted}
use Rattle.c_interface.specs.Calls.{digest_answer, put_output, reference_answer, reference_output}
use Rattle.c_interface.proofs.put_reference.Goals as goal

module _ (b o : Bytes) (i : ℕ) where
  -- what a refusal promises
  abbrev Refused : Answer → Type 0
  Refused a = (a ≡ reference_answer b i o) × (o ≡ reference_output b i o)

  way_misshapen : well_shaped b ≡ false → Refused (refused 3 0)
  unfolding reference_answer reference_output reading
  way_misshapen e = (rw e, rw e)

  way_refused : (refusal : Refusal) → Err refusal ≡ reading b → Refused (refused (refusal_number refusal) (refusal_value refusal))
  unfolding reference_answer reference_output
  way_refused refusal e = (rw (← e), rw (← e))

  module _ (f : Fields) (e : Ok f ≡ reading b) where
    way_none : f.references ≤ i → Refused (refused 13 0)
    unfolding reference_answer reference_output
    way_none h = (rw (← e, le-leb f.references i h), rw (← e, le-leb f.references i h))

    module _ (h : i < f.references) (list : Bytes) (l : list ≡ reference_list b) where
      within : reference_size * i + reference_size ≤ length list
      within =
          let read_as = reading_accepted b f (sym e) in
          omega (arith, ap (λ (x : Fields). x.references) read_as.fields, ap length l ∙ reference_list_length b read_as.accepted.shape)

      way_there : (d o' : Bytes) (a : Answer) → d ≡ reference_at list i → a ≡ digest_answer o → o' ≡ put_output d o
          → (a ≡ reference_answer b i o) × (o' ≡ reference_output b i o)
      unfolding reference_answer reference_output
      way_there d o' a ed ea eo =
          let there : d ≡ reference_at (reference_list b) i = ed ∙ ap (λ (x : Bytes). reference_at x i) l in
          (rw (← e, lt-leb f.references i h) ea, rw (← e, lt-leb f.references i h, ← there) eo)

pub returns-in_default : goal.returns-in_default
returns-in_default c = let w = way_misshapen _ _ _ c.in_default.ensures in record {
  value = w.0;
  output_after = w.1;
}

pub returns-in_err-fields : goal.returns-in_err-fields
returns-in_err-fields c =
    let w = way_refused _ _ _ _ (rw c.in-Some.ensures.0 at c.in_err-fields.ensures) in
    let p = err_from_is_err_and c.from_residual.result c.from_residual.ensures.1 in record {
      value = rw (p.1, p.2) w.0;
      output_after = w.1;
    }

pub returns-then-fields-index : goal.returns-then-fields-index
returns-then-fields-index c = let w = way_none _ _ _ _ (rw c.in-Some.ensures.0 at c.in_ok-fields.ensures) c.if-fields-index.true in record {
  value = w.0;
  output_after = w.1;
}

pub reference-requires : goal.reference-requires
reference-requires c =
    within _ [] _ _ (rw c.in-Some.ensures.0 at c.in_ok-fields.ensures) c.if-fields-index.false _ (rw c.in-Some.ensures.0 at c.references.ensures.list)

pub returns : goal.returns
returns c = let w = way_there _ _ _ _ (rw c.in-Some.ensures.0 at c.in_ok-fields.ensures) c.if-fields-index.false _ (rw c.in-Some.ensures.0 at c.references.ensures.list)
    _ _ _ c.reference.ensures c.put_digest.ensures.value c.put_digest.ensures.output_after in record {
      value = w.0;
      output_after = w.1;
    }
