-- What holds of bytes that the reader accepts, as a record. Assumes nothing.
use mathlib.Core.Path.{◌≡◌, sym, ap, ◌∙◌}
use mathlib.Core.Bool.{false}
use mathlib.Core.Logic.{◌↔◌}
use borrow.Author.Tests.{not-true}
use Rattle.base.specs.Search.{any_below}
use Rattle.base.specs.Bytes.{Bytes}
use Rattle.block.specs.Layout.{reference_count, request_count, reference_list, request_list}
use Rattle.block.specs.Reading.{bad_request_at, slot_repeated_at, reference_repeated_at, fields_of, reading, read_answer}
use Rattle.block.specs.Promises.{Shaped, answer}
use Rattle.block.specs.declared.Fields.{Fields}
use Rattle.block.specs.Reading.{Reading}
use Rattle.std.specs.Prelude.{Ok}
use Rattle.block.proofs.Shape.{shaped, well_shaped_lem}
use Rattle.block.proofs.Causes.{told}

pub record Accepted (b : Bytes) : Type 0 where
  pub shape : Shaped b
  pub requests : any_below (bad_request_at (request_list b)) (request_count b) ≡ false
  pub slots : any_below (slot_repeated_at (request_list b)) (request_count b) ≡ false
  pub references : any_below (reference_repeated_at (reference_list b)) (reference_count b) ≡ false

pub accepted_reading : (b : Bytes) → Accepted b → reading b ≡ Ok (fields_of b)
unfolding reading
accepted_reading b a = rw (well_shaped_lem b a.shape, a.requests, a.slots, a.references)

-- the reader's number is 0 where all checks hold
all_held : (b : Bytes) → (answer b).refusal ≡ 0 → Accepted b
all_held b e =
    let held = (told b).none.0 e in
    record {
      shape = shaped b held.0.0.0.1;
      requests = not-true _ held.0.0.1;
      slots = not-true _ held.0.1;
      references = not-true _ held.1;
    }

pub number_accepted : (b : Bytes) → ((answer b).refusal ≡ 0) ↔ (reading b ≡ Ok (fields_of b))
number_accepted b = (λ e. accepted_reading b (all_held b e), λ e. rw e)

pub record AcceptedAs (b : Bytes) (f : Fields) : Type 0 where
  pub accepted : Accepted b
  pub fields : f ≡ fields_of b

pub reading_accepted : (b : Bytes) (f : Fields) → reading b ≡ Ok f → AcceptedAs b f
reading_accepted b f e =
    let a = all_held b (ap (λ (r : Reading). (read_answer r).refusal) e) in
    let same : Ok f ≡ Ok (fields_of b) = sym e ∙ accepted_reading b a in
    record { accepted = a; fields = cc }
