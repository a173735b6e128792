-- Document 01, "The block", and request Two, "A slot stated twice": reading checks 3, 6, 18 and 7, in that order. The numbers are those of "What is
-- turned down" and of the request.
use Rattle.std.specs.Prelude.{Result, Ok, Err, Bool, cond, not, ◌&&◌, ◌||◌, ℕ, eqb, leb, ltb, length}
use Rattle.base.specs.Search.{first_below, any_below}
use Rattle.base.specs.Bytes.{Bytes, same_bytes}
use Rattle.answer.specs.Checks.{success, refused}
use Rattle.answer.specs.Refusals.{refusal_number, refusal_value}
use Rattle.answer.specs.declared.Answer.{Answer}
use Rattle.answer.specs.declared.Refusal.{Refusal}
use Rattle.answer.specs.declared.Refusal.TheVariants.{Misshapen, BadRequest, RepeatedSlot, RepeatedReference}
use Rattle.setup.specs.Setup.{max_slot}
use Rattle.block.specs.Limits.{header_size, max_references, max_requests, block_size}
use Rattle.block.specs.Layout.{site_of, sequence_of, reference_count, request_count, reference_list, request_list, reference_at, request_at}
use Rattle.block.specs.declared.Request.{Request}
use Rattle.block.specs.declared.Fields.{Fields}

-- 3: block under 5 bytes, p or r over its limit, or wrong length
unfoldable pub well_shaped : Bytes → Bool
well_shaped b =
    leb header_size (length b)
    && (leb (reference_count b) max_references
    && (leb (request_count b) max_requests
    && eqb (length b) (block_size (reference_count b) (request_count b))))

-- 6: slot over 7, or number 0
abbrev pub bad_request : Request → Bool
bad_request q = ltb max_slot q.slot || eqb q.number 0

abbrev pub bad_request_at : Bytes → ℕ → Bool
bad_request_at list i = bad_request (request_at list i)

-- 18: a slot equal to an earlier one in the same block
abbrev pub slot_repeated_at : Bytes → ℕ → Bool
slot_repeated_at list i = any_below (λ j. eqb (request_at list j).slot (request_at list i).slot) i

-- 7: a reference equal to an earlier one
abbrev pub reference_repeated_at : Bytes → ℕ → Bool
reference_repeated_at list i = any_below (λ j. same_bytes (reference_at list j) (reference_at list i)) i

-- the fields that reading hands back for a block that passes all checks
abbrev pub fields_of : Bytes → Fields
fields_of b = record { site = site_of b; sequence = sequence_of b; references = reference_count b; requests = request_count b }

-- what reading gives: a block's fields, or the check that fails
abbrev pub Reading : Type 0
Reading = Result Fields Refusal

-- a check of the entries below a count: the first entry that fails it decides; if none does, the rest of reading
abbrev pub each_entry : (ℕ → Bool) → ℕ → (ℕ → Refusal) → Reading → Reading
each_entry fails count refusal rest = cond (any_below fails count) (Err (refusal (first_below fails count))) rest

-- the first check that fails decides, and each check of entries is a pass over its whole list
unfoldable pub reading : Bytes → Reading
reading b =
    cond (not (well_shaped b)) (Err Misshapen)
    (each_entry (bad_request_at (request_list b)) (request_count b) BadRequest
    (each_entry (slot_repeated_at (request_list b)) (request_count b) RepeatedSlot
    (each_entry (reference_repeated_at (reference_list b)) (reference_count b) RepeatedReference
    (Ok (fields_of b)))))

-- the documents' number and value for each result of reading; number 0 is no refusal
abbrev pub read_answer : Reading → Answer
read_answer (Ok fields) = success 0
read_answer (Err refusal) = refused (refusal_number refusal) (refusal_value refusal)

-- a choice by the result of reading: `accepted` of the fields where the reader accepts, `refused` of the answer where it refuses
module _ {A : Type 0} where
  abbrev pub when_read : Reading → (Fields → A) → (Answer → A) → A
  when_read (Ok fields) accepted refused = accepted fields
  when_read (Err refusal) accepted refused = refused (read_answer (Err refusal))
