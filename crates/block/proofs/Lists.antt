-- The entries of the two lists: how many there are, and which one stands at an index. Assumes nothing.
use mathlib.Core.Path.{◌≡◌, ap, ◌∙◌}
use mathlib.Core.List.{[], ◌∷◌}
use Prim.Native.Nat.{ℕ, suc, ◌/◌, ◌<◌}
use native.Mathlib.Omega.{arith}
use lib.ListN.{length, get_or, drop, length-map, get_or-map}
use lib.Seq.{drop-cons}
use Rattle.base.specs.Bytes.{Bytes, parts}
use Rattle.base.proofs.Parts.{length_parts, parts_at}
use Rattle.block.specs.Limits.{reference_size, request_size}
use Rattle.block.specs.Layout.{reference_at, request_of, request_at, references_in, requests_in}
use Rattle.block.specs.Codec.{no_request}

module _ (list : Bytes) where
  pub references_length : length (references_in list) ≡ length list / reference_size
  references_length = length_parts (length list / reference_size) reference_size list

  pub references_at_lem : (i : ℕ) → i < length list / reference_size → get_or (references_in list) i [] ≡ reference_at list i
  references_at_lem i h = parts_at (length list / reference_size) reference_size list i h

  pub requests_length : length (requests_in list) ≡ length list / request_size
  requests_length = length-map (parts (length list / request_size) request_size list) request_of ∙ length_parts (length list / request_size) request_size list

  pub requests_at : (i : ℕ) → i < length list / request_size → get_or (requests_in list) i no_request ≡ request_at list i
  requests_at i h =
      get_or-map request_of (parts (length list / request_size) request_size list) i []
      ∙ ap request_of (parts_at (length list / request_size) request_size list i h)

  -- what is left of the requests at an index: the one there, and the rest
  pub requests_drop : (i : ℕ) → i < length list / request_size → drop i (requests_in list) ≡ request_at list i ∷ drop (suc i) (requests_in list)
  requests_drop i h = rw (drop-cons (requests_in list) i no_request (omega (arith, requests_length)), requests_at i h)
