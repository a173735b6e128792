-- Document 01, "The table": the rules on what is held, over a view of it.
use Rattle.std.specs.Prelude.{Bool, not, ◌&&◌, ◌||◌, ℕ, ◌+◌, eqb, leb, ltb}
use Rattle.base.specs.Search.{first_below, any_below, all_below}
use Rattle.base.specs.Count.{count_below}
use Rattle.base.specs.Bytes.{Bytes, same_bytes}
use Rattle.setup.specs.Setup.{Setup, lawful}
use Rattle.block.specs.Limits.{max_references}
use Rattle.table.specs.View.{max_places, Row, interpreted, View}

-- place i holds the block of this digest
abbrev pub has_digest : View → Bytes → ℕ → Bool
has_digest v d i = same_bytes (v.row i).digest d

-- the lowest place below k that holds the block of this digest, k if there is none
abbrev pub place_of : View → ℕ → Bytes → ℕ
place_of v k d = first_below (has_digest v d) k

-- a block of `that_site` and `that_sequence` is a parent for a block of `site` and `sequence`: it is "of its own site with the sequence number one
-- less"
abbrev pub is_parent : ℕ → ℕ → ℕ → ℕ → Bool
is_parent site sequence that_site that_sequence = eqb that_site site && eqb (that_sequence + 1) sequence

-- the block of row q is a parent for the block of row r
abbrev pub parent_row : Row → Row → Bool
parent_row r q = is_parent r.site r.sequence q.site q.sequence

-- how many places below k are among the references of row r and hold a parent for it
unfoldable pub parents : View → ℕ → Row → ℕ
parents v k r = count_below (λ j. r.refers_to j && parent_row r (v.row j)) k

-- "a block of sequence 0 has no parent; any other has among its references exactly one"
unfoldable pub parent_rule : View → ℕ → Row → Bool
parent_rule v k r = eqb r.sequence 0 || eqb (parents v k r) 1

-- request Eleven: "form allows a missing parent for interpreted places of such a table", one that has retired something; two parents are never in
-- form
unfoldable pub parent_in_form : View → ℕ → Row → Bool
parent_in_form v k r = parent_rule v k r || ((eqb v.retired 1 && interpreted r) && eqb (parents v k r) 0)

-- row r refers to place j, and place j is not interpreted
abbrev pub refers_uninterpreted : View → Row → ℕ → Bool
refers_uninterpreted v r j = r.refers_to j && not (interpreted (v.row j))

-- the row of place i is in form, by itself and beside the rows of lower places
unfoldable pub row_in_form : Setup → View → ℕ → Bool
row_in_form s v i =
    -- sites below n
    ltb (v.row i).site s.sites
    -- the mark is 0 or 1
    && (leb (v.row i).mark 1
    -- references only to lower places
    && (not (any_below (λ j. leb i j && (v.row i).refers_to j) max_places)
    -- at most 16 references a place
    && (leb (count_below (v.row i).refers_to max_places) max_references
    -- digests all different
    && (not (any_below (has_digest v (v.row i).digest) i)
    -- an interpreted place has all its references interpreted
    && (not (interpreted (v.row i) && any_below (refers_uninterpreted v (v.row i)) i)
    -- the parent rule holds, but for a parent that may have been retired
    && parent_in_form v i (v.row i))))))

-- setup lawful, the byte for what has been retired 0 or 1, a count up to 64, and every row in form
unfoldable pub held_in_form : Setup → View → Bool
held_in_form s v = lawful s && (leb v.retired 1 && (leb v.held max_places && all_below (row_in_form s v) v.held))
