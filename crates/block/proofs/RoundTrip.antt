-- Bytes and fields determine each other: a fitting content's encoding reads to that content, and no other bytes do.
-- Assumes nothing.
use mathlib.Core.Path.{◌≡◌, refl, sym, ap, ◌∙◌, subst}
use mathlib.Core.Bool.{false}
use mathlib.Core.Logic.{◌≢◌}
use mathlib.Core.List.{List, [], ◌∷◌, ◌++◌, map}
use Prim.Native.Nat.{ℕ, zero, suc, ◌+◌, ◌*◌, ◌/◌, ◌≤◌, ◌<◌, suc-le-suc}
use native.Mathlib.Omega.{arith}
use lib.Dec.{eqb}
use lib.ListN.{length, get_or, drop, length-drop}
use lib.Seq.{length-take-le}
use borrow.Author.Tests.{ne_eqb}
use Rattle.base.specs.Bytes.{Bytes, AllBytes, same_bytes, concat}
use Rattle.base.proofs.Search.{any_false, any_false_at}
use Rattle.base.proofs.Bytes.{other_same, same_other, bytes_take, bytes_drop, bytes_append, bytes_concat}
use Rattle.base.proofs.Parts.{part_and_rest}
use Rattle.base.proofs.Number.{number_pair, number_below, number_high, number_low, high_below}
use Rattle.block.specs.Limits.{header_size, reference_size, request_size}
use Rattle.block.specs.Layout.{Content, site_of, sequence_of, reference_count, request_count, reference_list, request_list, reference_at, request_at, request_bytes, references_in, requests_in, content, content_of, encode}
use Rattle.block.specs.Reading.{bad_request, bad_request_at, slot_repeated_at, reference_repeated_at, fields_of, reading}
use Rattle.block.specs.Codec.{Digest, AdmissibleRequest, no_request, Fitting, Gives, RoundTrip}
use Rattle.block.specs.Promises.{Shaped}
use Rattle.block.specs.declared.Request.{Request}
use Rattle.block.specs.declared.Fields.{Fields}
use Rattle.std.specs.Prelude.{Ok}
use Rattle.block.proofs.Lists.{references_length, references_at_lem, requests_length, requests_at}
use Rattle.block.proofs.RequestCheck.{good_request, request_good}
use Rattle.block.proofs.Shape.{reference_list_length, request_list_length, references_counted, requests_counted}
use Rattle.block.proofs.Encoding.{encode_content, encode_length, encode_references, encode_requests, references_held, requests_held}
use Rattle.block.proofs.Acceptance.{Accepted, accepted_reading, reading_accepted}
use Rattle.block.proofs.Counting.{apart}

-- ---- from a fitting content to bytes

request_bytes_lem : (qs : List Request) → ((i : ℕ) → i < length qs → AdmissibleRequest (get_or qs i no_request)) → AllBytes (concat (map request_bytes qs))
unfolding concat
request_bytes_lem [] a i = omega arith
request_bytes_lem (q ∷ qs) a zero = omega (arith, (a 0 (omega arith)).slot)
request_bytes_lem (q ∷ qs) a (suc zero) = high_below q.number (a 0 (omega arith)).number
request_bytes_lem (q ∷ qs) a (suc (suc zero)) = omega arith
request_bytes_lem (q ∷ qs) a (suc (suc (suc i))) = request_bytes_lem qs (λ j h. a (suc j) (suc-le-suc h)) i

module _ (c : Content) (f : Fitting c) where
  abbrev sized : (i : ℕ) → i < length c.references → length (get_or c.references i []) ≡ reference_size
  sized i h = (f.digests i h).size

  encode_bytes : AllBytes (encode c)
  unfolding encode
  encode_bytes zero = f.site
  encode_bytes (suc zero) = high_below c.sequence f.sequence
  encode_bytes (suc (suc zero)) = omega arith
  encode_bytes (suc (suc (suc zero))) = omega (arith, f.few_references)
  encode_bytes (suc (suc (suc (suc zero)))) = omega (arith, f.few_requests)
  encode_bytes (suc (suc (suc (suc (suc i))))) =
      bytes_append (concat c.references) (concat (map request_bytes c.requests))
      (bytes_concat c.references (λ j h. (f.digests j h).bytes)) (request_bytes_lem c.requests f.admissible) i

  encode_shaped : Shaped (encode c)
  unfolding encode
  encode_shaped =
      record {
        header = omega (arith, encode_length c sized);
        references = f.few_references;
        requests = f.few_requests;
        exact = encode_length c sized;
      }

  -- the entries of the encoding's two lists are those of the content
  reference_there : (i : ℕ) → i < length c.references → reference_at (reference_list (encode c)) i ≡ get_or c.references i []
  reference_there i h =
      let l : length (concat c.references) / reference_size ≡ length c.references = sym (references_length (concat c.references)) ∙ ap length (references_held c sized) in
      ap (λ (x : Bytes). reference_at x i) (encode_references c sized)
      ∙ sym (references_at_lem (concat c.references) i (omega arith)) ∙ ap (λ (x : List Bytes). get_or x i []) (references_held c sized)

  request_there_lem : (i : ℕ) → i < length c.requests → request_at (request_list (encode c)) i ≡ get_or c.requests i no_request
  request_there_lem i h =
      let l : length (concat (map request_bytes c.requests)) / request_size ≡ length c.requests = sym (requests_length (concat (map request_bytes c.requests))) ∙ ap length (requests_held c sized) in
      ap (λ (x : Bytes). request_at x i) (encode_requests c sized)
      ∙ sym (requests_at (concat (map request_bytes c.requests)) i (omega arith)) ∙ ap (λ (x : List Request). get_or x i no_request) (requests_held c sized)

  not_repeated : (i : ℕ) → i < length c.references → reference_repeated_at (reference_list (encode c)) i ≡ false
  not_repeated i h =
      any_false (λ j. same_bytes (reference_at (reference_list (encode c)) j) (reference_at (reference_list (encode c)) i)) i
      (λ j l. rw (reference_there j (omega arith), reference_there i h) (other_same _ _ (f.different_references i j l h)))

  slot_there : (i : ℕ) → i < length c.requests → (request_at (request_list (encode c)) i).slot ≡ (get_or c.requests i no_request).slot
  slot_there i h = ap (λ (q : Request). q.slot) (request_there_lem i h)

  slot_not_repeated : (i : ℕ) → i < length c.requests → slot_repeated_at (request_list (encode c)) i ≡ false
  slot_not_repeated i h =
      any_false (λ j. eqb (request_at (request_list (encode c)) j).slot (request_at (request_list (encode c)) i).slot) i
      (λ j l. ne_eqb _ _ (λ e. f.different_slots i j l h (sym (slot_there j (omega arith)) ∙ e ∙ slot_there i h)))

  encode_accepted : Accepted (encode c)
  unfolding encode
  encode_accepted =
      record {
        shape = encode_shaped;
        requests = any_false (bad_request_at (request_list (encode c))) (length c.requests) (λ i h. ap bad_request (request_there_lem i h) ∙ good_request _ (f.admissible i h));
        slots = any_false (slot_repeated_at (request_list (encode c))) (length c.requests) slot_not_repeated;
        references = any_false (reference_repeated_at (reference_list (encode c))) (length c.references) not_repeated;
      }

  encode_content_back : content_of (encode c) ≡ c
  unfolding content_of content encode
  encode_content_back =
      rw (encode_references c sized, encode_requests c sized, references_held c sized, requests_held c sized, number_pair c.sequence)

-- ---- from bytes that are read to their content

module _ (b : Bytes) (a : AllBytes b) (r : Accepted b) where
  abbrev s : Shaped b
  s = r.shape

  list_bytes : AllBytes (reference_list b)
  list_bytes = bytes_take (reference_size * reference_count b) (drop header_size b) (bytes_drop header_size b a)

  requests_bytes : AllBytes (request_list b)
  requests_bytes = bytes_drop (header_size + reference_size * reference_count b) b a

  lists_rest : reference_list b ++ request_list b ≡ drop header_size b
  lists_rest = part_and_rest b header_size (reference_size * reference_count b)

  -- the content is one that fits
  digest_there : (i : ℕ) → i < reference_count b → Digest (reference_at (reference_list b) i)
  digest_there i h =
      record {
        bytes = bytes_take reference_size (drop (reference_size * i) (reference_list b)) (bytes_drop (reference_size * i) (reference_list b) list_bytes);
        size = length-take-le reference_size (drop (reference_size * i) (reference_list b)) (omega (arith, length-drop (reference_size * i) (reference_list b), reference_list_length b s));
      }

  different_there : (i j : ℕ) → j < i → i < reference_count b → reference_at (reference_list b) j ≢ reference_at (reference_list b) i
  different_there i j l h =
      same_other _ _ (any_false_at (λ k. same_bytes (reference_at (reference_list b) k) (reference_at (reference_list b) i)) i
      (any_false_at (reference_repeated_at (reference_list b)) (reference_count b) r.references i h) j l)

  admissible_there : (i : ℕ) → i < request_count b → AdmissibleRequest (request_at (request_list b) i)
  admissible_there i h = request_good (request_list b) requests_bytes i (any_false_at (bad_request_at (request_list b)) (request_count b) r.requests i h)

  fitting : Fitting (content_of b)
  unfolding content_of content
  fitting =
      let p : length (references_in (reference_list b)) ≡ reference_count b = references_length (reference_list b) ∙ references_counted b s in
      let q : length (requests_in (request_list b)) ≡ request_count b = requests_length (request_list b) ∙ requests_counted b s in
      let at : (i : ℕ) → i < reference_count b → get_or (references_in (reference_list b)) i [] ≡ reference_at (reference_list b) i =
      λ i h. references_at_lem (reference_list b) i (omega (arith, references_counted b s)) in
      let asked : (i : ℕ) → i < request_count b → get_or (requests_in (request_list b)) i no_request ≡ request_at (request_list b) i =
      λ i h. requests_at (request_list b) i (omega (arith, requests_counted b s)) in
      record {
        site = a 0;
        sequence = number_below _ _ (a 1) (a 2);
        few_references = omega (arith, s.references);
        digests = λ i h. rw (at i (omega arith)) (digest_there i (omega arith));
        different_references = λ i j l h. rw (at i (omega arith), at j (omega arith)) (different_there i j l (omega arith));
        few_requests = omega (arith, s.requests);
        admissible = λ i h. rw (asked i (omega arith)) (admissible_there i (omega arith));
        different_slots = λ i j l h. rw (asked i (omega arith), asked j (omega arith)) (apart b r i j l (omega arith));
      }

  -- and the bytes are its encoding
  encode_back : encode (content_of b) ≡ b
  unfolding content_of
  encode_back =
      encode_content (site_of b) (sequence_of b) (reference_list b) (request_list b) (omega (arith, reference_list_length b s)) (omega (arith, request_list_length b s)) requests_bytes
      ∙ rw (references_counted b s, requests_counted b s, lists_rest, number_high _ _ (a 2), number_low _ _ (a 2)) (header b s.header)
    where
      header : (x : Bytes) → 5 ≤ length x → get_or x 0 0 ∷ get_or x 1 0 ∷ get_or x 2 0 ∷ get_or x 3 0 ∷ get_or x 4 0 ∷ drop 5 x ≡ x
      header [] h = absurd (omega arith)
      header (x₀ ∷ []) h = absurd (omega arith)
      header (x₀ ∷ x₁ ∷ []) h = absurd (omega arith)
      header (x₀ ∷ x₁ ∷ x₂ ∷ []) h = absurd (omega arith)
      header (x₀ ∷ x₁ ∷ x₂ ∷ x₃ ∷ []) h = absurd (omega arith)
      header (x₀ ∷ x₁ ∷ x₂ ∷ x₃ ∷ x₄ ∷ rest) h = refl

-- ---- from what reading hands back to the content

fields_given : (b : Bytes) (f : Fields) → reading b ≡ Ok f → Gives f b
unfolding content_of content
fields_given b f e =
    let a = reading_accepted b f e in
    let s = a.accepted.shape in
    rw a.fields
    (record {
      content = refl;
      references = references_length (reference_list b) ∙ references_counted b s;
      requests = requests_length (request_list b) ∙ requests_counted b s;
      reference = λ i h. sym (references_at_lem (reference_list b) i (omega (arith, references_counted b s)));
      request = λ i h. sym (requests_at (request_list b) i (omega (arith, requests_counted b s)));
    })

-- ---- all of it

pub round_trip : RoundTrip
round_trip =
    record {
      written = λ c f. (encode_bytes c f, record { accepted = accepted_reading (encode c) (encode_accepted c f); content = encode_content_back c f });
      only = λ b c a r.
          let k = (reading_accepted b (fields_of b) r.accepted).accepted in
          (sym (encode_back b a k) ∙ ap encode r.content, subst Fitting r.content (fitting b a k));
      fields = fields_given;
    }
