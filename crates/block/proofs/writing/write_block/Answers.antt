-- `write_block` meets its contract: the header, the references and the requests are put one behind the other. Assumes nothing.
use mathlib.Core.Path.{◌≡◌, sym, ap, ◌∙◌}
use mathlib.Core.List.{[], ◌∷◌, ◌++◌}
use Prim.Native.Nat.{ℕ, ◌+◌, ◌/◌, ◌%◌}
use native.Mathlib.Omega.{arith}
use lib.ListN.{length, get_or, length-append}
use Rattle.base.specs.Bytes.{Bytes, AllBytes, splice}
use Rattle.base.proofs.Splice.{splice_append}
use Rattle.base.proofs.Words.{pair_of_number}
use Rattle.block.specs.Limits.{header_size, reference_size, request_size}
use Rattle.block.specs.Layout.{content, encode}
use Rattle.block.specs.Steps.{Writable}
use Rattle.block.proofs.Encoding.{encode_content}
use Rattle.block.proofs.writing.write_block.Goals as goal

module _ (site sequence : ℕ) (references requests output : Bytes) (w : Writable references requests output) where
  abbrev header : Bytes
  header = site ∷ sequence / 256 ∷ sequence % 256 ∷ length references / reference_size ∷ length requests / request_size ∷ []

  put_all : AllBytes requests → (o₁ o₂ o₃ : Bytes) → o₁ ≡ splice output 0 header → o₂ ≡ splice o₁ header_size references → o₃ ≡ splice o₂ (header_size + length references) requests
      → o₃ ≡ splice output 0 (encode (content site sequence references requests))
  put_all a o₁ o₂ o₃ e₁ e₂ e₃ =
      let two : o₂ ≡ splice output 0 (header ++ references) = e₂ ∙ ap (λ (o : Bytes). splice o header_size references) e₁ ∙ splice_append output 0 header (omega (arith, w.room)) references in
      e₃ ∙ ap (λ (o : Bytes). splice o (header_size + length references) requests) two
      ∙ ap (λ (n : ℕ). splice (splice output 0 (header ++ references)) n requests) (omega (arith, length-append header references))
      ∙ splice_append output 0 (header ++ references) (omega (arith, w.room, length-append header references)) requests
      ∙ ap (splice output 0) (sym (encode_content site sequence references requests w.references_whole w.requests_whole a))

pub returns : goal.returns
returns c =
    let a = c.args in
    put_all a.site a.sequence a.references.now a.requests.now a.output.now c.requires (λ i. (c.shared_slice_known-2-1.given i).fits)
    _ _ _ (c.put.ensures ∙ ap (λ (p : Bytes). splice a.output.now 0 (a.site ∷ get_or p 0 0 ∷ get_or p 1 0 ∷ length a.references.now / reference_size ∷ length a.requests.now / request_size ∷ [])) (c.to_be_bytes.ensures ∙ pair_of_number a.sequence c.ranges.sequence.fits)) c.put-2.ensures c.put-3.ensures
