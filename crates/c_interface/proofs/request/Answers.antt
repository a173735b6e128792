-- `request` meets its contract: one law for each way out. Assumes nothing.
use mathlib.Core.Path.{◌≡◌, ap, sym, ◌∙◌}
use mathlib.Core.Bool.{false}
use Prim.Native.Nat.{ℕ, ◌+◌, ◌*◌, ◌≤◌, ◌<◌}
use native.Mathlib.Omega.{arith}
use lib.ListN.{length}
use borrow.Author.Tests.{le-leb, lt-leb}
use Rattle.std.specs.Prelude.{Ok, Err}
use Rattle.std.proofs.lemmas.Result.{err_from_is_err_and}
use Rattle.base.specs.Bytes.{Bytes}
use Rattle.answer.specs.declared.Refusal.{Refusal}
use Rattle.answer.specs.declared.Refusal.TheVariants.{Misshapen, UnknownPlace}
use Rattle.block.specs.Limits.{request_size}
use Rattle.block.specs.Layout.{request_list, request_at}
use Rattle.block.specs.Reading.{well_shaped, reading}
use Rattle.block.specs.declared.Fields.{Fields}
use Rattle.block.specs.declared.Request.{Request}
use Rattle.block.proofs.Shape.{request_list_length}
use Rattle.block.proofs.Acceptance.{reading_accepted}
use Rattle.c_interface.specs.Calls.{requested_as, requested}
use Rattle.c_interface.proofs.request.Goals as goal

module _ (b : Bytes) (i : ℕ) where
  way_misshapen : well_shaped b ≡ false → requested_as (Err Misshapen) ≡ requested b i
  unfolding requested reading
  way_misshapen e = rw e

  way_refused : (refusal : Refusal) → Err refusal ≡ reading b → requested_as (Err refusal) ≡ requested b i
  unfolding requested
  way_refused refusal e = rw (← e)

  module _ (f : Fields) (e : Ok f ≡ reading b) where
    way_none : f.requests ≤ i → requested_as (Err UnknownPlace) ≡ requested b i
    unfolding requested
    way_none h = rw (← e, le-leb f.requests i h)

    module _ (h : i < f.requests) (list : Bytes) (l : list ≡ request_list b) where
      within : request_size * i + request_size ≤ length list
      within =
          let read_as = reading_accepted b f (sym e) in
          omega (arith, ap (λ (x : Fields). x.requests) read_as.fields, ap length l ∙ request_list_length b read_as.accepted.shape)

      way_there : (x : Request) → x ≡ request_at list i → requested_as (Ok x) ≡ requested b i
      unfolding requested
      way_there x ex =
          let there : x ≡ request_at (request_list b) i = ex ∙ ap (λ (y : Bytes). request_at y i) l in
          rw (there, ← e, lt-leb f.requests i h)

pub returns-in_default : goal.returns-in_default
returns-in_default c = way_misshapen _ _ c.in_default.ensures

pub returns-in_err-fields : goal.returns-in_err-fields
returns-in_err-fields c =
    let p = err_from_is_err_and c.from_residual.result c.from_residual.ensures.1 in
    rw (p.1, p.2) (way_refused _ _ _ (rw c.in-Some.ensures.0 at c.in_err-fields.ensures))

pub returns-then-fields-index : goal.returns-then-fields-index
returns-then-fields-index c = way_none _ _ _ (rw c.in-Some.ensures.0 at c.in_ok-fields.ensures) c.if-fields-index.true

pub request-requires : goal.request-requires
request-requires c =
    within _ _ _ (rw c.in-Some.ensures.0 at c.in_ok-fields.ensures) c.if-fields-index.false _ (rw c.in-Some.ensures.0 at c.requests-list.ensures.list)

pub returns : goal.returns
returns c =
    way_there _ _ _ (rw c.in-Some.ensures.0 at c.in_ok-fields.ensures) c.if-fields-index.false _ (rw c.in-Some.ensures.0 at c.requests-list.ensures.list) _ c.request.ensures
