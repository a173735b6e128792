-- What document 01's rules read of the blocks that are held, as a view. A table's bytes have a view, and so has the ledger of crates/run: the rules
-- are stated once, over views.
use Rattle.std.specs.Prelude.{◌≡◌, Bool, cond, ℕ, ◌<◌, eqb}
use Rattle.base.specs.Bytes.{Bytes}
use Rattle.setup.specs.Setup.{slot_count}

-- "a count up to 64"
abbrev pub max_places : ℕ
max_places = 64

-- what a table keeps of one block
pub record Row : Type 0 where
  pub digest : Bytes
  pub site : ℕ
  pub sequence : ℕ
  -- the set of places referred to
  pub refers_to : ℕ → Bool
  -- the counted request of each slot, 0 if none
  pub request : ℕ → ℕ
  -- 1 if the block is interpreted, 0 if not
  pub mark : ℕ

abbrev pub interpreted : Row → Bool
interpreted r = eqb r.mark 1

-- a view: whether something has been retired (1 if so, 0 if not), how many blocks are held, and the row of each place
pub record View : Type 0 where
  pub retired : ℕ
  pub held : ℕ
  pub row : ℕ → Row

-- two rows are equal in every field, as far as there are places and slots
pub record SameRow (r q : Row) : Type 0 where
  pub digest : r.digest ≡ q.digest
  pub site : r.site ≡ q.site
  pub sequence : r.sequence ≡ q.sequence
  pub refers_to : (j : ℕ) → j < max_places → r.refers_to j ≡ q.refers_to j
  pub request : (slot : ℕ) → slot < slot_count → r.request slot ≡ q.request slot
  pub mark : r.mark ≡ q.mark

-- the row, interpreted if the test passes and else as it is
abbrev pub marked_if : Bool → Row → Row
marked_if test r =
    record {
      digest = r.digest;
      site = r.site;
      sequence = r.sequence;
      refers_to = r.refers_to;
      request = r.request;
      mark = cond test 1 r.mark;
    }

-- two views agree on the places below k
abbrev pub SameBelow : View → View → ℕ → Type 0
SameBelow v w k = (i : ℕ) → i < k → SameRow (v.row i) (w.row i)
