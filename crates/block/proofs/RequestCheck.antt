-- An admissible request passes check 6, and a request made of bytes that passes check 6 is admissible. Assumes nothing.
use mathlib.Core.Path.{◌≡◌}
use mathlib.Core.Bool.{false}
use mathlib.Core.Logic.{◌≢◌}
use Prim.Native.Nat.{ℕ, ◌*◌, ◌/◌, ◌≤◌}
use native.Mathlib.Omega.{arith}
use lib.Dec.{eqb, ltb}
use lib.ListN.{length, drop}
use borrow.Author.Tests.{le-ltb, ne_eqb, ltb-false, eqb-false}
use Rattle.base.specs.Bytes.{Bytes, AllBytes, part_at}
use Rattle.base.proofs.Tests.{or_left, or_right}
use Rattle.base.proofs.Search.{first_le}
use Rattle.base.proofs.Bytes.{bytes_take, bytes_drop}
use Rattle.base.proofs.Number.{number_below}
use Rattle.setup.specs.Setup.{max_slot}
use Rattle.block.specs.Limits.{request_size}
use Rattle.block.specs.Layout.{request_at}
use Rattle.block.specs.Reading.{bad_request, bad_request_at}
use Rattle.block.specs.Codec.{AdmissibleRequest}
use Rattle.block.specs.Steps.{first_bad, NoneBad}
use Rattle.block.specs.declared.Request.{Request}

pub good_request : (q : Request) → AdmissibleRequest q → bad_request q ≡ false
good_request q a = rw (le-ltb max_slot q.slot a.slot, ne_eqb q.number 0 (λ e. omega (arith, a.some)))

-- a request that passes check 6 has one of the slots
pub slot_within : (q : Request) → bad_request q ≡ false → q.slot ≤ max_slot
slot_within q e = ltb-false max_slot q.slot (or_left (ltb max_slot q.slot) (eqb q.number 0) e)

pub request_good : (list : Bytes) → AllBytes list → (i : ℕ) → bad_request_at list i ≡ false → AdmissibleRequest (request_at list i)
request_good list all i e =
    let q : Request = request_at list i in
    let part : AllBytes (part_at request_size list i) = bytes_take request_size (drop (request_size * i) list) (bytes_drop (request_size * i) list all) in
    let n : q.number ≢ 0 = eqb-false q.number 0 (or_right (ltb max_slot q.slot) (eqb q.number 0) e) in
    record {
      slot = slot_within q e;
      some = omega arith;
      number = number_below _ _ (part 1) (part 2);
    }

-- where the search has come to the list's end, no request is bad
pub none_bad : (list : Bytes) (i : ℕ) → i ≡ first_bad list → length list / request_size ≤ i → NoneBad list
none_bad list i e h = omega (arith, first_le (bad_request_at list) (length list / request_size))
