-- Document 01, "Interpreting a place": a block with all its ancestors, and its meaning. That the meaning follows from the setup and from the bytes of
-- the block and its ancestors alone is said by the type of `meaning`.
use Rattle.std.specs.Prelude.{Bool, ℕ}
use mathlib.Core.List.{List, [], ◌∷◌, Memᴰ}
use Rattle.base.specs.Bytes.{Bytes}
use Rattle.setup.specs.Setup.{Setup}
use Rattle.block.specs.Layout.{site_of, sequence_of, request_for}
use Rattle.broadcast.specs.declared.SlotRecord.{SlotRecord}
use Rattle.table.specs.Rules.{is_parent}
use Rattle.records.specs.Layout.{numbers_of}
use Rattle.interpret.specs.Slot.{Direct, interpret_slot}

infixr 20 ◌and◌
-- a block, and the histories of the blocks that it refers to, in the order of its references
mutual
  pub data History : Type 0 where
    node : Bytes → Histories → History

  pub data Histories : Type 0 where
    end : Histories
    ◌and◌ : History → Histories → Histories

abbrev pub block_of : History → Bytes
block_of (node b hs) = b

abbrev pub list_of : Histories → List History
list_of end = []
list_of (h and hs) = h ∷ list_of hs

-- the histories of the blocks directly referred to
abbrev pub children : History → List History
children (node b hs) = list_of hs

-- block a is, by its site and sequence number, a parent for block b
abbrev pub is_parent_of : Bytes → Bytes → Bool
is_parent_of b a = is_parent (site_of b) (sequence_of b) (site_of a) (sequence_of a)

-- a is the history of an ancestor of h's block; h itself is left out
pub data Ancestor : History → History → Type 0 where
  direct : {a h : History} → Memᴰ a (children h) → Ancestor a h
  further : {a c h : History} → Ancestor a c → Memᴰ c (children h) → Ancestor a h

-- the record of a history's block in a slot: "the parent's record and the messages made in a block are each taken from that block's meaning"
unfoldable mutual
  pub slot_record : Setup → ℕ → History → SlotRecord
  slot_record s slot (node b hs) = interpret_slot s slot (site_of b) (sequence_of b) (request_for b slot) (directs s slot hs)

  pub directs : Setup → ℕ → Histories → List Direct
  directs s slot end = []
  directs s slot (h and hs) =
      record { site = site_of (block_of h); sequence = sequence_of (block_of h); state = slot_record s slot h } ∷ directs s slot hs

-- "Its meaning is eight records, one for each slot"
unfoldable pub meaning : Setup → History → List ℕ
meaning s h = numbers_of (λ slot. slot_record s slot h)
