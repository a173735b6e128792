-- What the contracts of inner functions cite: what an entry point has tested. Nothing here need be believed.
use Rattle.std.specs.Prelude.{◌≡◌, Bool, true, cond, not, ◌&&◌, List, [], ◌++◌, ℕ, zero, suc, ◌+◌, ◌/◌, ◌%◌, ◌^◌, ◌<◌, eqb, get_or, take, drop}
use Rattle.base.specs.Bytes.{Bytes, concat}
use Rattle.base.specs.Search.{any_below}
use Rattle.base.specs.List.{list_below}
use Rattle.base.specs.Mask.{mask_below, in_mask}
use Rattle.base.specs.Number.{pair}
use Rattle.base.specs.LowFirst.{word_size, low_first_bytes}
use Rattle.base.specs.Steps.{print_count, prints_below}
use Rattle.setup.specs.Setup.{max_sites, slot_count}
use Rattle.block.specs.Layout.{requests_in, counted_request}
use Rattle.table.specs.View.{Row}
use Rattle.table.specs.Layout.{references_offset, requests_offset, row_start, setup_of, count_of, digest_at, site_at, sequence_at, mark_at, row_at, view_of}
use Rattle.table.specs.Rules.{is_parent, refers_uninterpreted}
use Rattle.table.specs.Form.{in_form}

-- a row of this site and sequence number with these references; the rules on references read none of its other fields
abbrev pub row_of : ℕ → ℕ → ℕ → Row
row_of site sequence references =
    record { digest = []; site = site; sequence = sequence; refers_to = in_mask references; request = λ slot. 0; mark = 0 }

-- the row of place i with these references in place of its own
abbrev pub row_with : Bytes → ℕ → ℕ → Row
row_with t i references =
    record {
      digest = (row_at t i).digest;
      site = (row_at t i).site;
      sequence = (row_at t i).sequence;
      refers_to = in_mask references;
      request = (row_at t i).request;
      mark = (row_at t i).mark;
    }

-- the two bytes of each slot's counted request, out of a request list
abbrev pub counted_request_bytes : Bytes → Bytes
counted_request_bytes list = concat (list_below (λ slot. pair (counted_request (requests_in list) slot)) slot_count)

-- the row of a block that is admitted: the references are a mask of places, the requests a request list, and it is uninterpreted
abbrev pub new_row : Bytes → ℕ → ℕ → ℕ → Bytes → Row
new_row d site sequence references requests =
    record {
      digest = d;
      site = site;
      sequence = sequence;
      refers_to = in_mask references;
      request = counted_request (requests_in requests);
      mark = 0;
    }

-- the bytes of a row with these references in place of its own
abbrev pub with_references : Bytes → ℕ → Bytes
with_references row references = take references_offset row ++ (low_first_bytes word_size references ++ drop requests_offset row)

-- the block at place j is a parent for a block of this site and sequence number
abbrev pub parent_at : Bytes → ℕ → ℕ → ℕ → Bool
parent_at t site sequence j = is_parent site sequence (site_at t j) (sequence_at t j)

-- the mask of the interpreted places below k
abbrev pub marks_below : Bytes → ℕ → ℕ
marks_below t k = mask_below (λ j. eqb (mark_at t j) 1) k

-- the mask of the places below k that hold a block of this site, and the list of these masks, one for each site
abbrev pub site_below : Bytes → ℕ → ℕ → ℕ
site_below t site k = mask_below (λ j. eqb (site_at t j) site) k

abbrev pub sites_below : Bytes → ℕ → List ℕ
sites_below t k = list_below (λ site. site_below t site k) max_sites

-- the group of a place is told by the first byte of its digest, and its print by the second
abbrev pub group_count : ℕ
group_count = 16

abbrev pub group_at : Bytes → ℕ → ℕ
group_at t i = get_or t (row_start i) 0 % group_count

abbrev pub print_at : Bytes → ℕ → ℕ
print_at t i = get_or t (row_start i + 1) 0 % print_count

-- the mask of the prints that the places below i have in the group of place i
abbrev pub prints_met : Bytes → ℕ → ℕ
prints_met t i = prints_below (group_at t) (print_at t) i (group_at t i)

-- what the check of the row of place i asks of a caller: its site is below n, and of the lower places the masks are known of those that are
-- interpreted, of those of its own site, and of the prints in its group
pub record RowContext (t : Bytes) (i marked own prints : ℕ) : Type 0 where
  pub site : site_at t i < (setup_of t).sites
  pub marks : marked ≡ marks_below t i
  pub same : own ≡ site_below t (site_at t i) i
  pub met : prints ≡ prints_met t i

-- one more than the highest place below k whose digest begins with the byte, 0 if there is none
unfoldable pub last_of : Bytes → ℕ → ℕ → ℕ
last_of t byte zero = 0
last_of t byte (suc k) = cond (eqb (get_or (digest_at t k) 0 0) byte) (suc k) (last_of t byte k)

-- the index of a table: for each byte, one more than the highest place whose digest begins with the byte. First for the places below k, then for all
-- places held
abbrev pub byte_count : ℕ
byte_count = 256

abbrev pub index_below : Bytes → ℕ → List ℕ
index_below t k = list_below (λ byte. last_of t byte k) byte_count

abbrev pub index_of : Bytes → List ℕ
index_of t = index_below t (count_of t)

-- what `marks_closed` asks of a caller: place i refers to lower places only, and the mask of the lower places that are interpreted is known
pub record Lower (t : Bytes) (i references marked : ℕ) : Type 0 where
  pub lower : references / 2 ^ i ≡ 0
  pub marks : marked ≡ marks_below t i

-- "an interpreted place has all its references interpreted", for place i with these references
abbrev pub marks_closed : Bytes → ℕ → ℕ → Bool
marks_closed t i references = not (eqb (mark_at t i) 1 && any_below (refers_uninterpreted (view_of t) (row_of 0 0 references)) i)
