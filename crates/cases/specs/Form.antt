-- Tables in form and out of form: document 01, "The table", condition by condition. Each row changes a few bytes of a table in form.
use Rattle.std.specs.Prelude.{◌≡◌, true, false, [], ◌∷◌, ◌++◌, ℕ, ◌+◌, ◌-◌, ◌^◌, take, replicate}
use Rattle.base.specs.Bytes.{Bytes, splice}
use Rattle.base.specs.LowFirst.{word_size, low_first_bytes}
use Rattle.table.specs.Layout.{owners_offset, retired_offset, count_offset, site_offset, sequence_offset, references_offset, requests_offset, mark_offset, row_start, table_size, digest_at}
use Rattle.table.specs.Form.{in_form}
use Rattle.cases.specs.Blocks.{fresh, four, holding}

-- the table with one byte changed
abbrev pub changed : Bytes → ℕ → ℕ → Bytes
changed t at byte = splice t at (byte ∷ [])

-- the table with place i referring to the places of the mask
abbrev pub referring : Bytes → ℕ → ℕ → Bytes
referring t i mask = splice t (row_start i + references_offset) (low_first_bytes word_size mask)

-- the table with this mark at place i
abbrev pub with_mark_at : Bytes → ℕ → ℕ → Bytes
with_mark_at t i mark = changed t (row_start i + mark_offset) mark

-- the table as one that has retired something
abbrev pub retired_some : Bytes → Bytes
retired_some t = changed t retired_offset 1

-- `four` with the sequence numbers of site 3's blocks one higher: the first of these blocks, at place 2, has no parent
abbrev pub lacking_parent : Bytes
lacking_parent = changed (changed four (row_start 2 + sequence_offset + 1) 1) (row_start 3 + sequence_offset + 1) 2

-- `four` with all four places marked, and at place 3 a block of site 0 that refers to both forks
abbrev pub two_parented : Bytes
two_parented = with_mark_at (with_mark_at (with_mark_at (with_mark_at (changed (referring four 3 7) (row_start 3 + site_offset) 0) 0 1) 1 1) 2 1) 3 1

-- `four` holds two forks of site 0 at places 0 and 1, a block of site 3 that refers to place 1 at place 2, and site 3's next block, which refers to
-- places 0 and 2, at place 3
pub record FormCases : Type 0 where
  pub formed : in_form four ≡ true
  -- the buffer is one byte shorter than a table, or one longer
  pub shorter : in_form (take (table_size - 1) four) ≡ false
  pub longer : in_form (four ++ (0 ∷ [])) ≡ false
  -- "setup lawful": five sites; an owner that is no site
  pub five_sites : in_form (changed four 0 5) ≡ false
  pub owner_four : in_form (changed four (owners_offset + 7) 4) ≡ false
  -- "a count up to 64"
  pub sixty_five : in_form (changed (holding 64) count_offset 65) ≡ false
  -- "Entries from the count on are zero": the first byte, and the last
  pub first_after : in_form (changed four (row_start 4) 1) ≡ false
  pub last_after : in_form (changed four (table_size - 1) 1) ≡ false
  -- "at most 16 references a place"
  pub sixteen_references : in_form (referring (holding 18) 17 (2 ^ 16 - 1)) ≡ true
  pub seventeen_references : in_form (referring (holding 18) 17 (2 ^ 17 - 1)) ≡ false
  -- form says nothing of how many requests there are: place 3 has one of each slot
  pub each_slot_requested : in_form (splice four (row_start 3 + requests_offset) (replicate 16 255)) ≡ true
  -- "digests all different"
  pub same_digest : in_form (splice four (row_start 3) (digest_at four 0)) ≡ false
  -- "sites below n"
  pub site_four : in_form (changed four (row_start 1 + site_offset) 4) ≡ false
  -- "references only to lower places": place 0 refers to itself, to a higher place that is held, and to a place from the count on
  pub itself : in_form (referring four 0 1) ≡ false
  pub higher_held : in_form (referring four 0 4) ≡ false
  pub beyond : in_form (referring four 0 (2 ^ 63)) ≡ false
  -- a mark is 0 or 1
  pub mark_two : in_form (with_mark_at four 0 2) ≡ false
  -- "an interpreted place has all its references interpreted"
  pub reference_marked : in_form (with_mark_at (with_mark_at four 1 1) 2 1) ≡ true
  pub reference_unmarked : in_form (with_mark_at (with_mark_at four 0 1) 2 1) ≡ false
  -- "the parent rule holds": a block has one parent; none; a block of its site among its references that has another sequence number; two parents
  pub one_parent : in_form (changed four (row_start 3 + site_offset) 0) ≡ true
  pub no_parent : in_form (changed four (row_start 2 + sequence_offset + 1) 1) ≡ false
  pub parent_of_higher_sequence : in_form (changed four (row_start 3 + sequence_offset + 1) 2) ≡ false
  pub two_parents : in_form (changed (referring four 3 7) (row_start 3 + site_offset) 0) ≡ false
  -- "A table keeps whether it has retired anything": byte 9 may be 1, whatever the table holds, and it may not be 2
  pub retired_empty : in_form (retired_some fresh) ≡ true
  pub retired_four : in_form (retired_some four) ≡ true
  pub retired_two : in_form (changed four retired_offset 2) ≡ false
  -- "form allows a missing parent for interpreted places of such a table": the place is interpreted; it is not; nothing was retired; there are two
  -- parents
  pub missing_parent : in_form (retired_some (with_mark_at (with_mark_at lacking_parent 1 1) 2 1)) ≡ true
  pub missing_uninterpreted : in_form (retired_some (with_mark_at lacking_parent 1 1)) ≡ false
  pub missing_unretired : in_form (with_mark_at (with_mark_at lacking_parent 1 1) 2 1) ≡ false
  pub retired_two_parents : in_form (retired_some two_parented) ≡ false
