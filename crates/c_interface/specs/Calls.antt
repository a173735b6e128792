-- What the calls of C programs that are not calls of the core answer and leave, over document 01's digest and reading. Refusals are numbered as in
-- "What is turned down": 13 for an index not below the count of entries, 17 for an output that is too short, with the length needed.
use Rattle.std.specs.Prelude.{Result, Ok, Err, cond, ℕ, leb, ltb, length}
use Rattle.base.specs.Bytes.{Bytes, splice}
use Rattle.sha256.specs.Sha256.{sha256}
use Rattle.answer.specs.Checks.{success, refused}
use Rattle.answer.specs.Refusals.{refusal_number, refusal_value}
use Rattle.answer.specs.declared.Answer.{Answer}
use Rattle.answer.specs.declared.Refusal.{Refusal}
use Rattle.block.specs.Limits.{reference_size}
use Rattle.block.specs.Layout.{reference_list, request_list, reference_at, request_at}
use Rattle.block.specs.Reading.{reading, when_read}
use Rattle.block.specs.declared.Fields.{Fields}
use Rattle.block.specs.declared.Request.{Request}
use Rattle.c_interface.specs.declared.BlockReading.{BlockReading}
use Rattle.c_interface.specs.declared.Requested.{Requested}

-- the refusal of an index not below the count of entries
abbrev pub no_such_entry : Answer
no_such_entry = refused 13 0

-- ---- 32 bytes, of a digest or of a reference, put at the front of the output

abbrev pub digest_answer : Bytes → Answer
digest_answer output = cond (ltb (length output) reference_size) (refused 17 reference_size) (success 0)

abbrev pub put_output : Bytes → Bytes → Bytes
put_output part output = cond (ltb (length output) reference_size) output (splice output 0 part)

-- the output after gt_digest, whose answer is digest_answer
unfoldable pub digest_output : Bytes → Bytes → Bytes
digest_output message output = put_output (sha256 message) output

-- ---- gt_read_block: beside a refusal all fields are 0

abbrev pub no_fields : Fields
no_fields = record { site = 0; sequence = 0; references = 0; requests = 0 }

-- a result of reading, as programs in C get it
abbrev pub read_as : Result Fields Refusal → BlockReading
read_as r = when_read r (λ f. record { answer = success 0; fields = f }) (λ a. record { answer = a; fields = no_fields })

unfoldable pub block_reading : Bytes → BlockReading
block_reading b = read_as (reading b)

-- ---- gt_reference

unfoldable pub reference_answer : Bytes → ℕ → Bytes → Answer
reference_answer b index output = when_read (reading b) (λ f. cond (leb f.references index) no_such_entry (digest_answer output)) (λ a. a)

unfoldable pub reference_output : Bytes → ℕ → Bytes → Bytes
reference_output b index output =
    when_read (reading b) (λ f. cond (leb f.references index) output (put_output (reference_at (reference_list b) index) output)) (λ a. output)

-- ---- gt_request: beside a refusal slot and number are 0

abbrev pub without_request : Answer → Requested
without_request a = record { answer = a; slot = 0; number = 0 }

-- a request or why there is none, as programs in C get it
abbrev pub requested_as : Result Request Refusal → Requested
requested_as (Ok request) = record { answer = success 0; slot = request.slot; number = request.number }
requested_as (Err refusal) = without_request (refused (refusal_number refusal) (refusal_value refusal))

abbrev pub request_there : Bytes → ℕ → Requested
request_there list index = record { answer = success 0; slot = (request_at list index).slot; number = (request_at list index).number }

unfoldable pub requested : Bytes → ℕ → Requested
requested b index = when_read (reading b) (λ f. cond (leb f.requests index) (without_request no_such_entry) (request_there (request_list b) index)) without_request
