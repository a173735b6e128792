-- The content of the next block fits a block's fields, so that its bytes read back to it; and how many bytes they are. Assumes nothing.
use mathlib.Core.Path.{◌≡◌, sym, ap, ◌∙◌}
use mathlib.Core.Bool.{Bool, true}
use mathlib.Core.Logic.{◌≢◌}
use mathlib.Core.List.{[]}
use Prim.Native.Nat.{ℕ, ◌+◌, ◌*◌, ◌/◌, ◌≤◌, ◌<◌}
use native.Mathlib.Omega.{arith}
use lib.ListN.{length, get_or, drop, length-map}
use Rattle.base.specs.Bytes.{Bytes, AllBytes}
use Rattle.base.proofs.Tests.{not_true_false}
use Rattle.base.proofs.List.{map_at}
use Rattle.base.proofs.Bytes.{bytes_take, bytes_drop}
use Rattle.block.specs.Limits.{header_size, reference_size, request_size, block_size}
use Rattle.block.specs.Layout.{Content, request_at}
use Rattle.block.specs.Codec.{Digest, no_request, Fitting, Reads}
use Rattle.block.specs.declared.Request.{Request}
use Rattle.block.proofs.Lists.{requests_length, requests_at}
use Rattle.block.proofs.RequestCheck.{request_good}
use Rattle.block.proofs.Causes.{bad_means}
use Rattle.block.proofs.Encoding.{encode_length}
use Rattle.block.proofs.RoundTrip.{round_trip}
use Rattle.table.specs.Layout.{row_start, digest_at, view_of}
use Rattle.table.specs.Form.{in_form}
use Rattle.table.proofs.InForm.{TableForm, table_form, one_place, in_formed}
use Rattle.build.specs.Building.{max_sequence, next_sequence, picked, next_content, next_block}
use Rattle.build.specs.Promises.{Asked}
use Rattle.build.proofs.Digests.{digest_size}
use Rattle.build.proofs.PickedPlaces.{picked_at, picked_few, picked_held, picked_different}

module _ (seen : ℕ → Bool) (t : Bytes) (p : ℕ) (requests : Bytes) where
  abbrev next : Content
  next = next_content seen (view_of t) p requests

  abbrev place : ℕ → ℕ
  place = picked_at seen (view_of t) p

  pub as_many_references : length next.references ≡ length (picked seen (view_of t) p)
  unfolding next_content
  as_many_references = length-map (picked seen (view_of t) p) (digest_at t)

  pub reference_at_lem : (i : ℕ) → i < length (picked seen (view_of t) p) → get_or next.references i [] ≡ digest_at t (place i)
  unfolding next_content
  reference_at_lem i h = map_at (digest_at t) (picked seen (view_of t) p) i 0 [] h

  as_many_requests : length next.requests ≡ length requests / request_size
  unfolding next_content
  as_many_requests = requests_length requests

  module _ (form : TableForm t) where
    pub reference_size_lem : (i : ℕ) → i < length next.references → length (get_or next.references i []) ≡ reference_size
    reference_size_lem i h =
        let l : i < length (picked seen (view_of t) p) = omega (arith, as_many_references) in
        ap length (reference_at_lem i l) ∙ digest_size t form.size (place i) (omega (arith, picked_held seen (view_of t) p i l, form.held.fits))

    references_different : (i j : ℕ) → j < i → i < length next.references → get_or next.references j [] ≢ get_or next.references i []
    references_different i j h l e =
        let k : i < length (picked seen (view_of t) p) = omega (arith, as_many_references) in
        let m : j < length (picked seen (view_of t) p) = omega arith in
        picked_different seen (view_of t) p i j h k
        (one_place t (in_formed t form) (place j) (place i) (picked_held seen (view_of t) p j m) (picked_held seen (view_of t) p i k) (sym (reference_at_lem j m) ∙ e ∙ reference_at_lem i k))

  -- the length of the next block, by its counts and by the bytes of the requests
  pub next_length : in_form t ≡ true → length (next_block seen (view_of t) p requests) ≡ block_size (length (picked seen (view_of t) p)) (length requests / request_size)
  next_length f = encode_length next (reference_size_lem (table_form t f)) ∙ rw (as_many_references, as_many_requests)

  pub needed_is : in_form t ≡ true → length requests ≡ request_size * (length requests / request_size)
      → length (next_block seen (view_of t) p requests) ≡ header_size + reference_size * length (picked seen (view_of t) p) + length requests
  needed_is f whole = next_length f ∙ omega arith

  module _ (all : AllBytes t) (all_requests : AllBytes requests) (asked : Asked t p requests)
      (last : next_sequence seen (view_of t) p ≤ max_sequence) where
    form : TableForm t
    form = table_form t asked.formed

    digest_there : (i : ℕ) → i < length next.references → Digest (get_or next.references i [])
    digest_there i h =
        record {
          bytes = rw (reference_at_lem i (omega (arith, as_many_references))) (bytes_take reference_size (drop (row_start (place i)) t) (bytes_drop (row_start (place i)) t all));
          size = reference_size_lem form i h;
        }

    slot_is : (i : ℕ) → i < length requests / request_size → (request_at requests i).slot ≡ (get_or next.requests i no_request).slot
    unfolding next_content
    slot_is i h = ap (λ (q : Request). q.slot) (sym (requests_at requests i h))

    pub next_fits : Fitting next
    unfolding next_content
    next_fits =
        record {
          site = omega (arith, asked.site, all 0);
          sequence = omega (arith, last);
          few_references = omega (arith, as_many_references, picked_few seen (view_of t) p);
          digests = digest_there;
          different_references = references_different form;
          few_requests = omega (arith, as_many_requests, asked.fits);
          admissible = λ i h.
              let l : i < length requests / request_size = omega (arith, as_many_requests) in
              rw (requests_at requests i l) (request_good requests all_requests i (not_true_false _ (λ y. asked.none_bad (i, (bad_means requests (length requests / request_size) i).0 (l, y)))));
          different_slots = λ i j h k e.
              let l : i < length requests / request_size = omega (arith, as_many_requests) in
              asked.none_repeated (i, record { below = l; earlier = j; is_earlier = h; same = slot_is j (omega arith) ∙ e ∙ sym (slot_is i l) });
        }

    pub next_reads : Reads (next_block seen (view_of t) p requests) next
    next_reads = (round_trip.written next next_fits).1
