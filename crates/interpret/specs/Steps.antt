-- What the contracts of inner functions cite: what an entry point has tested. Nothing here need be believed.
use Rattle.std.specs.Prelude.{◌≡◌, cond, List, [], ◌∷◌, ℕ, zero, suc, ◌≤◌, ◌<◌, eqb, ltb, length, get_or, Option, Some, None}
use Rattle.base.specs.Count.{count_below}
use Rattle.base.specs.List.{list_below, passing_below}
use Rattle.base.specs.Bytes.{Bytes}
use Rattle.setup.specs.Setup.{max_sites, owner_of, slot_count}
use Rattle.block.specs.Limits.{max_references}
use Rattle.broadcast.specs.declared.Kind.{Kind}
use Rattle.broadcast.specs.declared.SlotRecord.{SlotRecord}
use Rattle.broadcast.specs.Record.{blank}
use Rattle.broadcast.specs.Process.{made_of, received, receive_all}
use Rattle.table.specs.View.{max_places, Row, View}
use Rattle.table.specs.Layout.{setup_of, site_at, row_at, view_of}
use Rattle.table.specs.Rules.{parent_row}
use Rattle.records.specs.Layout.{record_in}
use Rattle.interpret.specs.Slot.{Direct, messages}
use Rattle.interpret.specs.Interpretation.{direct_at}

-- a place, sites below 16, and no more than 16 references, so that arrays of sixteen have room
pub record Interpretable (t : Bytes) (i : ℕ) : Type 0 where
  pub place : i < max_places
  pub few : (setup_of t).sites ≤ max_sites
  pub sites : (j : ℕ) → j < i → site_at t j < max_sites
  pub few_references : count_below (row_at t i).refers_to max_places ≤ max_references

-- the places below i that place i refers to, lower places first
abbrev pub referred_by : Bytes → ℕ → List ℕ
referred_by t i = passing_below (row_at t i).refers_to i

-- what Interpretable asks, with the list of the places that place i refers to, and a slot
pub record InterpretableSlot (t : Bytes) (i : ℕ) (places : List ℕ) (slot : ℕ) : Type 0 where
  pub ready : Interpretable t i
  pub listed : places ≡ referred_by t i
  pub below : slot < slot_count

-- a slot, and a list of places that hold blocks of sites below 16
pub record PlaceList (t : Bytes) (places : List ℕ) (slot : ℕ) : Type 0 where
  pub few : (setup_of t).sites ≤ max_sites
  pub below : slot < slot_count
  pub held : (k : ℕ) → k < length places → get_or places k 0 < max_places
  pub sites : (k : ℕ) → k < length places → site_at t (get_or places k 0) < max_sites

-- the blocks of the first k places of a list, with their records in a slot, the block of the last place first
unfoldable pub directs_first : View → List ℕ → ℕ → List ℕ → ℕ → List Direct
directs_first v buffer slot places zero = []
directs_first v buffer slot places (suc k) = direct_at v buffer slot (get_or places k 0) ∷ directs_first v buffer slot places k

-- the blocks of all places of a list, with their records in a slot, the block of the last place first
abbrev pub directs_of : Bytes → List ℕ → List ℕ → ℕ → List Direct
directs_of t places buffer slot = directs_first (view_of t) buffer slot places (length places)

-- the lower of two numbers, where 0 is none
unfoldable pub least_of : ℕ → ℕ → ℕ
least_of v w = cond (eqb v 0) w (cond (eqb w 0) v (cond (ltb v w) v w))

-- the lowest number of a kind made in the blocks of site p, 0 if there is none
unfoldable pub lowest : Kind → ℕ → List Direct → ℕ
lowest k p [] = 0
lowest k p (d ∷ ds) = cond (eqb d.site p) (least_of (made_of k d.state) (lowest k p ds)) (lowest k p ds)

-- for each site, the lowest number of a kind made in its blocks, 0 if there is none
abbrev pub lowest_in : Kind → List Direct → List ℕ
lowest_in k ds = list_below (λ p. lowest k p ds) max_sites

-- for each site, the lowest number of a kind made in its blocks at a list of places, 0 if there is none
abbrev pub lowest_of : Bytes → List ℕ → List ℕ → ℕ → Kind → List ℕ
lowest_of t places buffer slot k = lowest_in k (directs_of t places buffer slot)

-- the record r after a message of kind k from each site below p; the site's number stands in the list `low`, 0 for no message
unfoldable pub heard_from : ℕ → ℕ → Kind → List ℕ → ℕ → SlotRecord → SlotRecord
heard_from n owner k low zero r = r
heard_from n owner k low (suc p) r = received (heard_from n owner k low p r) n owner k p (get_or low p 0)

-- the record r after all messages made in the blocks of a list of places
abbrev pub heard_all : Bytes → List ℕ → List ℕ → ℕ → SlotRecord → SlotRecord
heard_all t places buffer slot r = receive_all (setup_of t).sites (owner_of (setup_of t) slot) (messages (setup_of t).sites (directs_of t places buffer slot)) r

-- the last of the first k places of a list whose block is a parent for the row r, if there is one
unfoldable pub parent_first : View → Row → List ℕ → ℕ → Option ℕ
parent_first v r places zero = None
parent_first v r places (suc k) = cond (parent_row r (v.row (get_or places k 0))) (Some (get_or places k 0)) (parent_first v r places k)

-- the last place of a list whose block is a parent for place i, if there is one
abbrev pub parent_of : Bytes → ℕ → List ℕ → Option ℕ
parent_of t i places = parent_first (view_of t) (row_at t i) places (length places)

-- the record of a slot at the parent's place, the blank record where there is no parent
unfoldable pub state_at : List ℕ → ℕ → Option ℕ → SlotRecord
state_at buffer slot (Some i) = record_in buffer i slot
state_at buffer slot None = blank
