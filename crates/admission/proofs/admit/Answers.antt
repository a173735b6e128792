-- `admit` meets its contract: one law for each way out. Assumes nothing.
use mathlib.Core.Path.{◌≡◌, sym, ◌∙◌}
use mathlib.Core.Bool.{true, false}
use mathlib.Core.Logic.{◌≢◌}
use Prim.Native.Nat.{ℕ, ◌≤◌, ◌<◌}
use native.Mathlib.Omega.{arith}
use borrow.Author.Tests.{eq-eqb, ne_eqb, lt-ltb, le-ltb}
use Rattle.base.specs.Bytes.{Bytes}
use Rattle.sha256.specs.Sha256.{sha256}
use Rattle.std.specs.Prelude.{Ok, Err}
use Rattle.std.proofs.lemmas.Result.{MatchResult-at_err}
use Rattle.answer.proofs.Refusals.{numbered}
use Rattle.answer.specs.Refusals.{refusal_number, refusal_value}
use Rattle.answer.specs.declared.Refusal.{Refusal}
use Rattle.answer.specs.Checks.{refused, answer_to}
use Rattle.block.specs.Layout.{site_of}
use Rattle.block.specs.Reading.{well_shaped, fields_of, reading}
use Rattle.block.specs.declared.Fields.{Fields}
use Rattle.std.specs.Prelude.{Ok}
use Rattle.block.specs.Promises.{Shaped}
use Rattle.block.proofs.Shape.{well_shaped_lem}
use Rattle.block.proofs.Acceptance.{reading_accepted}
use Rattle.table.specs.Layout.{setup_of}
use Rattle.table.specs.Form.{in_form}
use Rattle.admission.specs.Admission.{admission, admitted}
use Rattle.admission.specs.Steps.{held_answer, entered}
use Rattle.admission.proofs.admit.Goals as goal
use Rattle.admission.proofs.admit.Goals.{Else-sites_of-site, In-Ok}

module _ (t b : Bytes) (verdict : ℕ) where
  -- what a refusal promises
  abbrev Refused : ℕ → ℕ → Type 0
  Refused number value = (refused number value ≡ admission sha256 t b verdict) × (t ≡ admitted sha256 t b verdict)

  refusing : (number value : ℕ) → 0 < number → refused number value ≡ admission sha256 t b verdict → Refused number value
  unfolding admitted
  refusing number value n e = (e, rw (← e, ne_eqb number 0 (λ z. omega arith)))

  way2 : in_form t ≡ false → Refused 2 0
  unfolding admission answer_to
  way2 e = refusing 2 0 (omega arith) (rw e)

  module _ (formed : in_form t ≡ true) where
    way3 : well_shaped b ≡ false → Refused 3 0
    unfolding admission answer_to
    way3 e = refusing 3 0 (omega arith) (rw (formed, e))

    module _ (shape : Shaped b) where
      way4 : (setup_of t).sites ≤ site_of b → Refused 4 0
      unfolding admission answer_to
      way4 h = refusing 4 0 (omega arith) (rw (formed, well_shaped_lem b shape, le-ltb (site_of b) (setup_of t).sites h))

      module _ (site : site_of b < (setup_of t).sites) where
        way5 : verdict ≢ 1 → Refused 5 0
        unfolding admission answer_to
        way5 n = refusing 5 0 (omega arith) (rw (formed, well_shaped_lem b shape, lt-ltb (site_of b) (setup_of t).sites site, ne_eqb verdict 1 n))

        module _ (link : verdict ≡ 1) where
          way_reader : (refusal : Refusal) → Err refusal ≡ reading b → Refused (refusal_number refusal) (refusal_value refusal)
          unfolding admission answer_to
          way_reader refusal e =
              refusing (refusal_number refusal) (refusal_value refusal) (numbered refusal)
              (rw (formed, well_shaped_lem b shape, lt-ltb (site_of b) (setup_of t).sites site, eq-eqb verdict 1 link, ← e, ne_eqb (refusal_number refusal) 0 (λ z. omega (arith, numbered refusal))))

          module _ (f : Fields) (e : Ok f ≡ reading b) where
            through : admission sha256 t b verdict ≡ held_answer t b
            unfolding admission answer_to held_answer
            through = rw (formed, well_shaped_lem b shape, lt-ltb (site_of b) (setup_of t).sites site, eq-eqb verdict 1 link, ← e)

            table_through : entered t b ≡ admitted sha256 t b verdict
            unfolding admitted entered
            table_through = rw through

fields : (b : Bytes) (f : Fields) → Ok f ≡ reading b → f ≡ fields_of b
fields b f e = (reading_accepted b f (sym e)).fields

-- what each test shows
site : (c : Else-sites_of-site) → let a = c.args in site_of a.block.now < (setup_of a.table.now).sites
site c = rw (← c.in-Some.ensures.table.0, ← c.sites_of.ensures, ← c.in-Some-new.ensures.0, ← c.site.ensures) c.if-sites_of-site.false

pub returns-in_default : goal.returns-in_default
returns-in_default c = let w = way2 _ _ _ c.in_default.ensures.table in record { value = w.0; table_after = w.1 }

pub returns-in_default-new : goal.returns-in_default-new
returns-in_default-new c = let w = way3 _ _ _ c.in-Some.ensures.table.1 c.in_default-new.ensures in record { value = w.0; table_after = c.in-Some.ensures.table.0 ∙ w.1 }

pub returns-then-sites_of-site : goal.returns-then-sites_of-site
returns-then-sites_of-site c =
    let w = way4 _ _ _ c.in-Some.ensures.table.1 c.in-Some-new.ensures.1 (rw (← c.in-Some.ensures.table.0, ← c.sites_of.ensures, ← c.in-Some-new.ensures.0, ← c.site.ensures) c.if-sites_of-site.true) in
    record { value = w.0; table_after = c.in-Some.ensures.table.0 ∙ w.1 }

pub returns-then-verdict-ne1 : goal.returns-then-verdict-ne1
returns-then-verdict-ne1 c =
    let w = way5 _ _ _ c.in-Some.ensures.table.1 c.in-Some-new.ensures.1 (site (goal.at.returns-then-verdict-ne1 c).Else-sites_of-site) c.if-verdict-ne1.true in
    record { value = w.0; table_after = c.in-Some.ensures.table.0 ∙ w.1 }

-- reading the block by its type is reading its bytes
pub returns-in_default-reading : goal.returns-in_default-reading
returns-in_default-reading c =
    let at = goal.at.returns-in_default-reading c in
    let e = rw c.in-Some-new.ensures.0 at c.in_default-reading.ensures in
    let w = way_reader _ _ _ c.in-Some.ensures.table.1 c.in-Some-new.ensures.1 (site at.Else-sites_of-site) c.if-verdict-ne1.false _ e in
    record { value = rw (MatchResult-at_err _ _ _ c.in_default-reading.is c.map.ensures.cases) w.0; table_after = c.in-Some.ensures.table.0 ∙ w.1 }

read : (c : In-Ok) → Ok c.in-Ok.fields ≡ reading c.args.block.now
read c = rw c.in-Some-new.ensures.0 at c.in-Ok.ensures

pub enter-requires : goal.enter-requires
enter-requires c = (rw c.in-Some.ensures.table.0 c.in-Some.ensures.table.1, fields _ _ c.in-Ok.ensures)

pub returns : goal.returns
returns c =
    let at = goal.at.returns c in
    let f = c.in-Some.ensures.table.1 in
    let l = site at.Else-sites_of-site in
    let r = read at.In-Ok in
    let e = rw (c.in-Some.ensures.table.0, c.in-Some-new.ensures.0) at c.enter.ensures.value in
    let e' = rw (c.in-Some.ensures.table.0, c.in-Some-new.ensures.0) at c.enter.ensures.table_after in
    record {
      value = e ∙ sym (through _ _ _ f c.in-Some-new.ensures.1 l c.if-verdict-ne1.false _ r);
      table_after = e' ∙ table_through _ _ _ f c.in-Some-new.ensures.1 l c.if-verdict-ne1.false _ r;
    }
