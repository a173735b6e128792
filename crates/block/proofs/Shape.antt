-- Check 3 as a test and as a record of what it shows, and the two lists of bytes that pass it. Assumes nothing.
use mathlib.Core.Path.{◌≡◌, ◌∙◌}
use mathlib.Core.Bool.{Bool, true, ◌&&◌}
use Prim.Native.Nat.{◌+◌, ◌*◌, ◌/◌, ◌≤◌}
use native.Mathlib.Omega.{arith}
use lib.Dec.{leb, eqb}
use lib.ListN.{length, drop, length-drop}
use lib.Seq.{length-take-le}
use borrow.Author.Tests.{leb-true, eqb-true, le-leb, eq-eqb}
use Rattle.base.specs.Bytes.{Bytes}
use Rattle.base.proofs.Tests.{and_left, and_right}
use Rattle.block.specs.Limits.{header_size, reference_size, request_size, max_references, max_requests, block_size, max_block_size}
use Rattle.block.specs.Layout.{reference_count, request_count, reference_list, request_list}
use Rattle.block.specs.Reading.{well_shaped}
use Rattle.block.specs.Promises.{Shaped}

pub shaped : (b : Bytes) → well_shaped b ≡ true → Shaped b
unfolding well_shaped
shaped b e =
    let x : Bool = eqb (length b) (block_size (reference_count b) (request_count b)) in
    let e₁ = and_right (leb header_size (length b)) (leb (reference_count b) max_references && (leb (request_count b) max_requests && x)) e in
    let e₂ = and_right (leb (reference_count b) max_references) (leb (request_count b) max_requests && x) e₁ in
    record {
      header = leb-true header_size (length b) (and_left _ (leb (reference_count b) max_references && (leb (request_count b) max_requests && x)) e);
      references = leb-true (reference_count b) max_references (and_left _ (leb (request_count b) max_requests && x) e₁);
      requests = leb-true (request_count b) max_requests (and_left _ x e₂);
      exact = eqb-true (length b) (block_size (reference_count b) (request_count b)) (and_right (leb (request_count b) max_requests) x e₂);
    }

pub well_shaped_lem : (b : Bytes) → Shaped b → well_shaped b ≡ true
unfolding well_shaped
well_shaped_lem b s =
    rw (
      le-leb header_size (length b) s.header,
      le-leb (reference_count b) max_references s.references,
      le-leb (request_count b) max_requests s.requests,
      eq-eqb (length b) (block_size (reference_count b) (request_count b)) s.exact,
    )

module _ (b : Bytes) (s : Shaped b) where
  -- what passes check 3 is within the limit of a block's length
  pub at_most : length b ≤ max_block_size
  at_most = omega arith

  pub reference_list_length : length (reference_list b) ≡ reference_size * reference_count b
  reference_list_length = length-take-le (reference_size * reference_count b) (drop header_size b) (omega (arith, length-drop header_size b))

  pub request_list_length : length (request_list b) ≡ request_size * request_count b
  request_list_length = length-drop (header_size + reference_size * reference_count b) b ∙ omega arith

  pub references_counted : length (reference_list b) / reference_size ≡ reference_count b
  references_counted = omega (arith, reference_list_length)

  pub requests_counted : length (request_list b) / request_size ≡ request_count b
  requests_counted = omega (arith, request_list_length)
