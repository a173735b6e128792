-- Document 01, "Interpreting a place", for one slot: the record of a block from its site, its sequence number and its counted request, and from the
-- blocks that it refers to directly. It is not said here whether these blocks stand in a table or in a history: one definition serves both.
use Rattle.std.specs.Prelude.{Bool, not, cond, ◌&&◌, List, [], ◌∷◌, ◌++◌, map, ℕ, zero, suc, eqb, ltb}
use Rattle.setup.specs.Setup.{Setup, owner_of}
use Rattle.broadcast.specs.declared.Kind.{Kind}
use Rattle.broadcast.specs.declared.Kind.TheVariants.{Send, Echo, Ready}
use Rattle.broadcast.specs.declared.SlotRecord.{SlotRecord}
use Rattle.broadcast.specs.Record.{blank, nothing_made}
use Rattle.broadcast.specs.Process.{Message, message, made_of, receive_all, take_request}
use Rattle.table.specs.Rules.{is_parent}

-- a block directly referred to: its site, its sequence number, and its record in the slot
pub record Direct : Type 0 where
  pub site : ℕ
  pub sequence : ℕ
  pub state : SlotRecord

-- the parent's record, "all 0 without a parent"
unfoldable pub parent_state : ℕ → ℕ → List Direct → SlotRecord
parent_state site sequence [] = blank
parent_state site sequence (d ∷ ds) = cond (is_parent site sequence d.site d.sequence) d.state (parent_state site sequence ds)

-- a number put into a rising list without repeats
unfoldable pub insert : ℕ → List ℕ → List ℕ
insert v [] = v ∷ []
insert v (x ∷ xs) = cond (ltb v x) (v ∷ x ∷ xs) (cond (eqb v x) (x ∷ xs) (x ∷ insert v xs))

-- the list with a number put into it, if the test passes
unfoldable pub insert_if : Bool → ℕ → List ℕ → List ℕ
insert_if test v xs = cond test (insert v xs) xs

-- the numbers of the messages of kind k made in the blocks of site p, as a set, lower numbers first; 0 is no message
unfoldable pub numbers : Kind → ℕ → List Direct → List ℕ
numbers k p [] = []
numbers k p (d ∷ ds) = insert_if (eqb d.site p && not (eqb (made_of k d.state) 0)) (made_of k d.state) (numbers k p ds)

-- the messages of kind k from the senders below n, lower senders first
unfoldable pub messages_of : Kind → ℕ → List Direct → List Message
messages_of k zero ds = []
messages_of k (suc p) ds = messages_of k p ds ++ map (message k p) (numbers k p ds)

-- "as a set of (kind, sender, number) ..: SEND before ECHO before READY, then lower sender, then lower number"
unfoldable pub messages : ℕ → List Direct → List Message
messages n ds = messages_of Send n ds ++ (messages_of Echo n ds ++ messages_of Ready n ds)

-- the record of a block in a slot: the parent's record with nothing made, then the request, then the messages. "Messages made here are not heard
-- here"
unfoldable pub interpret_slot : Setup → ℕ → ℕ → ℕ → ℕ → List Direct → SlotRecord
interpret_slot s slot site sequence v ds =
    receive_all s.sites (owner_of s slot) (messages s.sites ds)
    (take_request (owner_of s slot) site v (nothing_made (parent_state site sequence ds)))
