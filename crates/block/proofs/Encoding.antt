-- The encoding of a content: its length and its fields, and the encoding of what two lists of bytes hold. Assumes nothing.
use mathlib.Core.Path.{◌≡◌, refl, sym, ap, ◌∙◌}
use mathlib.Core.List.{List, [], ◌∷◌, ◌++◌, map, append-nil}
use Prim.Native.Nat.{ℕ, zero, suc, ◌*◌, ◌/◌, ◌%◌, ◌≤◌, ◌<◌}
use native.Mathlib.Omega.{arith}
use native.Mathlib.Nat.{mul-suc, add_comm}
use lib.ListN.{length, get_or, take, length-append}
use lib.Seq.{take_all, take_at, drop_at, drop-drop}
use Rattle.base.specs.Bytes.{Bytes, AllBytes, parts, concat}
use Rattle.base.proofs.Number.{number_high, number_low, number_pair}
use Rattle.base.proofs.Parts.{concat_parts, length_joined, parts_joined}
use Rattle.block.specs.Limits.{header_size, reference_size, request_size, block_size}
use Rattle.block.specs.Layout.{Content, request_of, request_bytes, references_in, requests_in, content, encode, reference_list, request_list}
use Rattle.block.specs.declared.Request.{Request}
use Rattle.block.proofs.Lists.{references_length, requests_length}

-- ---- the requests' bytes

requests_size : (qs : List Request) → length (concat (map request_bytes qs)) ≡ request_size * length qs
unfolding concat
requests_size [] = refl
requests_size (q ∷ qs) = rw (length-append, requests_size qs) (sym (mul-suc 3 (length qs) ∙ add_comm (3 * length qs) 3))

requests_back : (qs : List Request) → map request_of (parts (length qs) request_size (concat (map request_bytes qs))) ≡ qs
unfolding parts concat
requests_back [] = refl
requests_back (q ∷ qs) = rw (number_pair q.number, requests_back qs)

requests_forth : (k : ℕ) (b : Bytes) → AllBytes b → request_size * k ≤ length b → concat (map request_bytes (map request_of (parts k request_size b))) ≡ take (request_size * k) b
unfolding parts concat
requests_forth zero b a h = refl
requests_forth (suc k) [] a h = absurd (omega arith)
requests_forth (suc k) (x ∷ []) a h = absurd (omega arith)
requests_forth (suc k) (x ∷ y ∷ []) a h = absurd (omega arith)
requests_forth (suc k) (x ∷ y ∷ z ∷ b) a h =
    let e : 3 * suc k ≡ suc (suc (suc (3 * k))) = omega arith in
    rw (e, number_high y z (a 2), number_low y z (a 2), requests_forth k b (λ i. a (suc (suc (suc i)))) (omega arith))

-- ---- from two lists of bytes

pub encode_content : (site sequence : ℕ) (references requests : Bytes) → length references ≡ reference_size * (length references / reference_size)
    → length requests ≡ request_size * (length requests / request_size) → AllBytes requests
    → encode (content site sequence references requests)
    ≡ site ∷ sequence / 256 ∷ sequence % 256 ∷ length references / reference_size ∷ length requests / request_size ∷ (references ++ requests)
unfolding encode content
encode_content site sequence references requests e f a =
    let j : concat (references_in references) ≡ references = concat_parts (length references / reference_size) reference_size references ∙ take_all (reference_size * (length references / reference_size)) references (omega arith) in
    let k : concat (map request_bytes (requests_in requests)) ≡ requests = requests_forth (length requests / request_size) requests a (omega arith) ∙ take_all (request_size * (length requests / request_size)) requests (omega arith) in
    rw (references_length references, requests_length requests, j, k)

-- ---- from a content

module _ (c : Content) (sized : (i : ℕ) → i < length c.references → length (get_or c.references i []) ≡ reference_size) where
  abbrev references : Bytes
  references = concat c.references

  abbrev requests : Bytes
  requests = concat (map request_bytes c.requests)

  references_size : length references ≡ reference_size * length c.references
  references_size = length_joined reference_size c.references sized

  pub encode_length : length (encode c) ≡ block_size (length c.references) (length c.requests)
  unfolding encode
  encode_length = omega (arith, length-append references requests, references_size, requests_size c.requests)

  pub encode_references : reference_list (encode c) ≡ references
  unfolding encode
  encode_references = take_at references requests (reference_size * length c.references) references_size

  pub encode_requests : request_list (encode c) ≡ requests
  unfolding encode
  encode_requests =
      sym (drop-drop (reference_size * length c.references) header_size (encode c))
      ∙ drop_at references requests (reference_size * length c.references) references_size

  -- the two lists' bytes hold the references and the requests
  pub references_held : references_in references ≡ c.references
  references_held =
      let k : length references / reference_size ≡ length c.references = omega (arith, references_size) in
      ap (λ (n : ℕ). parts n reference_size references) k ∙ ap (parts (length c.references) reference_size) (sym (append-nil references)) ∙ parts_joined reference_size c.references [] sized

  pub requests_held : requests_in requests ≡ c.requests
  requests_held =
      let k : length requests / request_size ≡ length c.requests = omega (arith, requests_size c.requests) in
      ap (λ (n : ℕ). map request_of (parts n request_size requests)) k ∙ requests_back c.requests
