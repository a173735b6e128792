-- What is left after check 16: the next block is the encoding of the site, the next sequence number and the bytes of the two lists, and it is
-- written where there is room for it. Assumes nothing.
use mathlib.Core.Path.{◌≡◌, ap, ap₂, ◌∙◌}
use mathlib.Core.Bool.{Bool, true}
use Prim.Native.Nat.{ℕ, ◌+◌, ◌*◌, ◌≤◌, ◌<◌}
use native.Mathlib.Omega.{arith}
use lib.ListN.{length}
use borrow.Author.Tests.{le-leb, lt-leb}
use Rattle.base.specs.Bytes.{Bytes, splice}
use Rattle.answer.specs.Checks.{success, refused, answer_to}
use Rattle.block.specs.Limits.{header_size, reference_size, max_references}
use Rattle.block.specs.Layout.{requests_in, content, encode}
use Rattle.block.specs.Steps.{Writable}
use Rattle.block.proofs.Encoding.{references_held}
use Rattle.table.specs.Layout.{view_of}
use Rattle.table.specs.Form.{in_form}
use Rattle.table.proofs.InForm.{table_form}
use Rattle.build.specs.Building.{max_sequence, next_sequence, picked, next_content, next_block}
use Rattle.build.specs.Steps.{RequestList, digests_of, next_answer, next_output}
use Rattle.build.proofs.PickedPlaces.{picked_few, picked_held}
use Rattle.build.proofs.Digests.{digests_size}
use Rattle.build.proofs.NextContent.{reference_size_lem, needed_is}

-- 30
pub way_past : (seen : ℕ → Bool) (t : Bytes) (p : ℕ) (requests output : Bytes) → max_sequence < next_sequence seen (view_of t) p
    → (refused 30 0 ≡ next_answer seen t p requests output) × (output ≡ next_output seen t p requests output)
unfolding next_answer next_output answer_to
way_past seen t p requests output h = let no = lt-leb (next_sequence seen (view_of t) p) max_sequence h in (rw no, rw no)

module _ (seen : ℕ → Bool) (t : Bytes) (p : ℕ) (requests : Bytes) (formed : in_form t ≡ true) where
  abbrev references : Bytes
  references = digests_of t (picked seen (view_of t) p)

  content_is : content p (next_sequence seen (view_of t) p) references requests ≡ next_content seen (view_of t) p requests
  unfolding content next_content
  content_is = λ k. record {
    site = p;
    sequence = next_sequence seen (view_of t) p;
    references = references_held (next_content seen (view_of t) p requests) (reference_size_lem seen t p requests (table_form t formed)) k;
    requests = requests_in requests;
  }

  -- what is written for the bytes of the two lists is the next block
  encoding_is : (sequence : ℕ) (list : Bytes) → sequence ≡ next_sequence seen (view_of t) p → list ≡ references
      → encode (content p sequence list requests) ≡ next_block seen (view_of t) p requests
  encoding_is sequence list e f = ap₂ (λ (n : ℕ) (l : Bytes). encode (content p n l requests)) e f ∙ ap encode content_is

  references_size : length references ≡ reference_size * length (picked seen (view_of t) p)
  references_size =
      digests_size t (table_form t formed).size (picked seen (view_of t) p)
      (λ i h. omega (arith, picked_held seen (view_of t) p i h, (table_form t formed).held.fits))

  module _ (listed : RequestList requests) (output list : Bytes) (is : list ≡ references) where
    abbrev needed : ℕ
    needed = header_size + length list + length requests

    needed_size : length (next_block seen (view_of t) p requests) ≡ needed
    needed_size = needed_is seen t p requests formed listed.whole ∙ omega (arith, references_size, ap length is)

    list_few : length list ≤ reference_size * max_references
    list_few = omega (arith, references_size, ap length is, picked_few seen (view_of t) p)

    pub writable : needed ≤ length output → Writable list requests output
    writable room = record {
      references_whole = omega (arith, references_size, ap length is);
      references_few = list_few;
      requests_whole = listed.whole;
      requests_few = listed.fits;
      room = omega arith;
    }

    -- 17, and the block
    pub way_short : next_sequence seen (view_of t) p ≤ max_sequence → length output < needed
        → (refused 17 needed ≡ next_answer seen t p requests output) × (output ≡ next_output seen t p requests output)
    unfolding next_answer next_output answer_to
    way_short last h = let yes = le-leb (next_sequence seen (view_of t) p) max_sequence last in
        let no = lt-leb (length (next_block seen (view_of t) p requests)) (length output) (omega (arith, needed_size)) in
        (rw (yes, no, needed_size), rw (yes, no))

    pub way_written : (sequence : ℕ) → sequence ≡ next_sequence seen (view_of t) p → sequence ≤ max_sequence → needed ≤ length output → (after : Bytes)
        → after ≡ splice output 0 (encode (content p sequence list requests)) → (success needed ≡ next_answer seen t p requests output) × (after ≡ next_output seen t p requests output)
    unfolding next_answer next_output answer_to
    way_written sequence q last h after e = let within = le-leb (next_sequence seen (view_of t) p) max_sequence (omega arith) in
        let yes = le-leb (length (next_block seen (view_of t) p requests)) (length output) (omega (arith, needed_size)) in
        (rw (within, yes, needed_size), rw (within, yes) (e ∙ ap (splice output 0) (encoding_is sequence list q is)))
