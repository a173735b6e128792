-- What the contracts of inner functions cite: what an entry point has tested. Nothing here need be believed.
use Rattle.std.specs.Prelude.{◌≡◌, ℕ, ◌+◌, ◌*◌, ◌/◌, ◌≤◌, eqb, length}
use Rattle.base.specs.Search.{first_below, any_below}
use Rattle.base.specs.Mask.{mask_below}
use Rattle.base.specs.Bytes.{Bytes, same_bytes}
use Rattle.setup.specs.Setup.{slot_count}
use Rattle.block.specs.Limits.{header_size, reference_size, request_size, max_references, max_request_list_size}
use Rattle.block.specs.Layout.{reference_count, request_count, reference_list, request_list, reference_at, request_at}
use Rattle.block.specs.Reading.{bad_request_at, slot_repeated_at, reference_repeated_at, fields_of, each_entry}
use Rattle.block.specs.Reading.{Reading}
use Rattle.std.specs.Prelude.{Ok}
use Rattle.answer.specs.declared.Refusal.TheVariants.{RepeatedSlot, RepeatedReference}

-- the bytes of two lists that fit into a block, and an output that has room for the block
pub record Writable (references requests output : Bytes) : Type 0 where
  pub references_whole : length references ≡ reference_size * (length references / reference_size)
  pub references_few : length references ≤ reference_size * max_references
  pub requests_whole : length requests ≡ request_size * (length requests / request_size)
  pub requests_few : length requests ≤ max_request_list_size
  pub room : header_size + length references + length requests ≤ length output

-- the searches of checks 6, 18 and 7, over as many entries as the list's length gives: the first bad request, the first request of a repeated slot,
-- the first of the references before k that is the key, and the first repeated reference; the bound of the search if there is none
abbrev pub first_bad : Bytes → ℕ
first_bad list = first_below (bad_request_at list) (length list / request_size)

abbrev pub first_of_repeated_slot : Bytes → ℕ
first_of_repeated_slot list = first_below (slot_repeated_at list) (length list / request_size)

abbrev pub first_same : Bytes → ℕ → Bytes → ℕ
first_same list k key = first_below (λ j. same_bytes (reference_at list j) key) k

abbrev pub first_repeated : Bytes → ℕ
first_repeated list = first_below (reference_repeated_at list) (length list / reference_size)

-- the requests of the list pass check 6
abbrev pub NoneBad : Bytes → Type 0
NoneBad list = first_bad list ≡ length list / request_size

-- the mask of the slots of the requests below i
abbrev pub slots_met : Bytes → ℕ → ℕ
slots_met list i = mask_below (λ slot. any_below (λ j. eqb (request_at list j).slot slot) i) slot_count

-- what is left of reading after check 18, and after check 6
module _ (b : Bytes) where
  abbrev pub from_references : Reading
  from_references = each_entry (reference_repeated_at (reference_list b)) (reference_count b) RepeatedReference (Ok (fields_of b))

  abbrev pub from_slots : Reading
  from_slots = each_entry (slot_repeated_at (request_list b)) (request_count b) RepeatedSlot from_references
