-- Request Fourteen, the promise of arrival: its premises, and what is promised of a ledger and of a site's record buffer.
use Rattle.std.specs.Prelude.{◌≡◌, Bool, true, ◌≢◌, List, [], ℕ, ◌+◌, ◌-◌, ◌*◌, ◌≤◌, ◌<◌, get_or}
use Rattle.base.specs.Bytes.{Bytes}
use Rattle.base.specs.Count.{count_below}
use Rattle.setup.specs.Setup.{Setup, owner_of, faults, slot_count}
use Rattle.block.specs.Layout.{site_of, sequence_of, request_for}
use Rattle.records.specs.Layout.{made_offset, record_size, part_of}
use Rattle.history.specs.History.{meaning}
use Rattle.history.specs.Ancestry.{history_of}
use Rattle.run.specs.Ledger.{Call, Ledger}
use Rattle.run.specs.Run.{Site}
use Rattle.run.specs.Promises.{Interpreted, delivered_entry, ledger_of, site_with}
use Rattle.arrival.specs.Full.{BlockBy, InChain, Above, Full}

-- "block A hold the owner's first counted request v of the slot": no block of the owner with a lower sequence number requests a number in the slot
pub record FirstRequest (s : Setup) (blocks : List Bytes) (slot v : ℕ) (A : Bytes) : Type 0 where
  pub by_owner : BlockBy blocks (owner_of s slot) A
  pub requests : request_for A slot ≡ v
  pub not_zero : v ≢ 0
  pub none_before : (b : Bytes) → BlockBy blocks (owner_of s slot) b → sequence_of b < sequence_of A → request_for b slot ≡ 0

-- p is a site of the set
pub record InSet (s : Setup) (set : ℕ → Bool) (p : ℕ) : Type 0 where
  pub below : p < s.sites
  pub is_in : set p ≡ true

-- "with every held block interpreted"
abbrev pub AllInterpreted : Ledger → Type 0
AllInterpreted l = (place : ℕ) → place < l.held → Interpreted l place

module _ (digest : Bytes → Bytes) where
  -- the blocks that the premises name: a first and a second block of each site of the set, and the last block
  pub record Rounds (s : Setup) (blocks : List Bytes) (A : Bytes) (set : ℕ → Bool) (last : Bytes) : Type 0 where
    -- "each site of a set .. has a block above A"
    pub first : ℕ → Bytes
    pub first_by : (p : ℕ) → InSet s set p → BlockBy blocks p (first p)
    pub first_above : (p : ℕ) → InSet s set p → Above digest blocks (first p) A
    -- "each of them has a block above all of those"
    pub second : ℕ → Bytes
    pub second_by : (p : ℕ) → InSet s set p → BlockBy blocks p (second p)
    pub second_above : (p q : ℕ) → InSet s set p → InSet s set q → Above digest blocks (second p) (first q)
    -- "a block above all of these"
    pub last_by : BlockBy blocks (site_of last) last
    pub last_above : (p : ℕ) → InSet s set p → Above digest blocks last (second p)

  -- entry k of the slot's record in the meaning of block b
  abbrev pub entry_in : Setup → List Bytes → ℕ → Bytes → ℕ → ℕ
  entry_in s blocks slot b k = get_or (meaning s (history_of digest blocks b)) (record_size * slot + k) 0

  module _ (s : Setup) (blocks : List Bytes) (slot v : ℕ) where
    -- the premises of the promise, with `last` as the block above the second block of each site of the set
    pub record Premises (last : Bytes) : Type 0 where
      -- "Let at least n - f sites be full, the owner among them": the set below has n - f full sites
      pub owner_full : Full digest blocks (owner_of s slot)
      -- "and let block A hold the owner's first counted request v of the slot"
      pub A : Bytes
      pub is_first : FirstRequest s blocks slot v A
      -- "If each site of a set of n - f full sites .."
      pub set : ℕ → Bool
      pub enough : s.sites - faults s.sites ≤ count_below set s.sites
      pub set_full : (p : ℕ) → InSet s set p → Full digest blocks p
      pub rounds : Rounds s blocks A set last
      -- "and a full site has a block above all of these": the site of the last block is full
      pub last_full : Full digest blocks (site_of last)

    -- "then v is delivered at that block or earlier in its chain"
    pub record DeliveredInChain (last : Bytes) : Type 0 where
      -- a block of the last block's chain makes the delivery: v is entry 39
      pub by : Bytes
      pub in_chain : InChain digest blocks by last
      pub made : entry_in s blocks slot by (made_offset + delivered_entry) ≡ v
      -- the last block has v as delivered: v is entry 3
      pub stays : entry_in s blocks slot last delivered_entry ≡ v

  -- v stands as delivered in the site's record buffer, at the places of the two blocks of DeliveredInChain
  pub record ShownInChain (l : Ledger) (x : Site) (slot v : ℕ) (last : Bytes) : Type 0 where
    -- at the place of a block of the last block's chain v is entry 39
    pub place : ℕ
    pub held : place < l.held
    pub in_chain : InChain digest l.blocks (l.block place) last
    pub made : get_or (part_of x.records place) (record_size * slot + (made_offset + delivered_entry)) 0 ≡ v
    -- at the last block's own place v is entry 3
    pub stays : (i : ℕ) → i < l.held → l.block i ≡ last → get_or (part_of x.records i) (record_size * slot + delivered_entry) 0 ≡ v

  -- the promise, for every list of calls, refused ones included, and a record buffer of any length and content
  module _ (s : Setup) (buffer : List ℕ) (calls : List Call) where
    abbrev ledger : Ledger
    ledger = ledger_of digest s buffer calls

    -- with nothing retired, v is delivered in the ledger; and the record buffer shows it once every held block is interpreted
    pub record ArrivalPromise : Type 0 where
      pub arrives : ledger.retired ≡ [] → (slot v : ℕ) (last : Bytes) → slot < slot_count → Premises s ledger.blocks slot v last
          → DeliveredInChain s ledger.blocks slot v last
      pub shown : ledger.retired ≡ [] → AllInterpreted ledger → (slot v : ℕ) (last : Bytes) → slot < slot_count → Premises s ledger.blocks slot v last
          → ShownInChain ledger (site_with digest s buffer calls) slot v last
