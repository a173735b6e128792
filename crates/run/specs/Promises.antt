-- Document 01, "Interpreting a place": what one list of calls leaves behind at a site, told by its ledger.
use Rattle.std.specs.Prelude.{◌≡◌, true, ◌⊎◌, ◌≢◌, ◌↔◌, ℕ, ◌+◌, ◌*◌, ◌<◌, length, get_or, drop}
use mathlib.Core.List.{List, [], map, Memᴰ}
use Rattle.base.specs.Bytes.{Bytes, all_zero}
use Rattle.answer.specs.declared.Answer.{Answer}
use Rattle.setup.specs.Setup.{Setup, owner_of, slot_count}
use Rattle.block.specs.Layout.{site_of, references_of, request_for}
use Rattle.table.specs.View.{SameBelow}
use Rattle.table.specs.Layout.{row_start, setup_of, retired_of, count_of, view_of}
use Rattle.records.specs.Layout.{record_size, part_of}
use Rattle.history.specs.History.{History, block_of, children, Ancestor, meaning}
use Rattle.history.specs.Ancestry.{history_of, AncestorIn}
use Rattle.run.specs.Ledger.{Call, Ledger, empty, retired_mark, view_in, ledger_after, ledger_answers}
use Rattle.run.specs.Run.{Site, started, site_after, site_answers}

-- "interpreted means marked there"
pub record Interpreted (l : Ledger) (place : ℕ) : Type 0 where
  pub below : place < l.held
  pub mark : l.mark place ≡ 1

-- the block b stands at a place of the ledger
abbrev pub Placed : Ledger → Bytes → Type 0
Placed l b = (place : ℕ) × (place < l.held) × (b ≡ l.block place)

-- a block is interpreted if it stands at a marked place or was retired: "the ledger then keeps the block and its mark, without a place"
abbrev pub InterpretedBlock : Ledger → Bytes → Type 0
InterpretedBlock l b = ((place : ℕ) × Interpreted l place × (b ≡ l.block place)) ⊎ Memᴰ b l.retired

-- the entry of a record that has the delivered number
abbrev pub delivered_entry : ℕ
delivered_entry = 3

module _ (digest : Bytes → Bytes) where
  -- no retired block shares its digest with a different block of the ledger: where nothing was retired this asks nothing, and where no two
  -- different blocks of the ledger share a digest it holds
  abbrev pub RetiredClear : Ledger → Type 0
  RetiredClear l = (a b : Bytes) → Memᴰ a l.retired → Memᴰ b l.blocks → digest a ≡ digest b → a ≡ b

  -- the block at a place, with its ancestors in the ledger
  abbrev pub history_at : Ledger → ℕ → History
  history_at l place = history_of digest l.blocks (l.block place)

  -- "A number, not 0, is delivered in a slot if it is entry 3 there in the meaning of an interpreted block"
  pub record Delivered (s : Setup) (l : Ledger) (slot v : ℕ) : Type 0 where
    pub block : Bytes
    pub is_interpreted : InterpretedBlock l block
    pub not_zero : v ≢ 0
    pub entry : get_or (meaning s (history_of digest l.blocks block)) (record_size * slot + delivered_entry) 0 ≡ v

  -- "the owner requested it if an ancestor of that block, built by the owner, has it as the slot's counted request"
  pub record OwnerRequested (s : Setup) (l : Ledger) (b : Bytes) (slot v : ℕ) : Type 0 where
    pub requester : Bytes
    pub ancestor : AncestorIn digest l.blocks requester b
    pub by_owner : site_of requester ≡ owner_of s slot
    pub requests : request_for requester slot ≡ v

  -- h is a history of blocks of the ledger, in which each block's children are, in order and none missing, blocks with the digests that it refers to
  pub record LedgerHistory (l : Ledger) (h : History) : Type 0 where
    pub among : (a : History) → (a ≡ h) ⊎ Ancestor a h → Memᴰ (block_of a) l.blocks
    pub listed : (a : History) → (a ≡ h) ⊎ Ancestor a h → map (λ c. digest (block_of c)) (children a) ≡ references_of (block_of a)

  -- the ledger after a list of calls, and the site after it, where both start with this setup and a record buffer of this length and content
  abbrev pub ledger_of : Setup → List ℕ → List Call → Ledger
  ledger_of s buffer calls = ledger_after digest s (length buffer) empty calls

  abbrev pub site_with : Setup → List ℕ → List Call → Site
  site_with s buffer calls = site_after digest (started s buffer) calls

  -- what holds of a site x after a list of calls, told by its ledger l
  pub record SiteKeeps (s : Setup) (l : Ledger) (x : Site) : Type 0 where
    -- setup, whether something was retired, count and all six fields of every place are the ledger's, and all bytes from the count on are zero
    pub setup : setup_of x.table ≡ s
    pub retired : retired_of x.table ≡ retired_mark l.retired
    pub count : count_of x.table ≡ l.held
    pub rows : SameBelow (view_of x.table) (view_in digest l) l.held
    pub rest : all_zero (drop (row_start l.held) x.table) ≡ true
    -- the blocks that count are those at the places and the retired ones
    pub placed : (b : Bytes) → Memᴰ b l.blocks ↔ (Placed l b ⊎ Memᴰ b l.retired)
    -- "At every marked place the place's part of the buffer equals its block's meaning"
    pub shown : RetiredClear l → (place : ℕ) → Interpreted l place → part_of x.records place ≡ meaning s (history_at l place)
    -- whatever the digests are, a marked place's part equals the meaning of some history of its block: the history that the block was admitted with
    pub admitted_with : (place : ℕ) → Interpreted l place
        → (h : History) × LedgerHistory l h × (block_of h ≡ l.block place) × (part_of x.records place ≡ meaning s h)
    -- the children of a block's history are, in order and none missing, the blocks of the ledger with the digests that the block refers to
    pub listed : RetiredClear l → (b : Bytes) → Memᴰ b l.blocks → map (λ c. digest (block_of c)) (children (history_of digest l.blocks b)) ≡ references_of b
    pub held : RetiredClear l → (b : Bytes) → Memᴰ b l.blocks → (c : History) → Memᴰ c (children (history_of digest l.blocks b))
        → Memᴰ (block_of c) l.blocks × (c ≡ history_of digest l.blocks (block_of c))
    -- a delivered number was requested by the owner in an ancestor
    pub requested : RetiredClear l → (slot v : ℕ) → slot < slot_count → (d : Delivered s l slot v) → OwnerRequested s l d.block slot v
    -- where nothing was retired, RetiredClear holds, so none of these promises asks anything of digests
    pub unretired : l.retired ≡ [] → RetiredClear l

  -- what holds of the answers of a site's calls
  pub record AnswersKeep (s : Setup) (buffer : List ℕ) (calls : List Call) : Type 0 where
    -- each answer is the ledger's, number and value
    pub same : site_answers digest (started s buffer) calls ≡ ledger_answers digest s (length buffer) empty calls
    -- no answer is 2: the table is always in form
    pub formed : (a : Answer) → Memᴰ a (site_answers digest (started s buffer) calls) → a.refusal ≢ 2
