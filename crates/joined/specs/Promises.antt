-- Request Eight: "From tables and records that calls reached, the result is one that calls could have reached, so agreement covers joined tables
-- too". proofs/Promises.antt shows it, with SHA-256.
use Rattle.std.specs.Prelude.{◌≡◌, ◌⊎◌, ◌≢◌, ◌↔◌, ℕ, ◌+◌, ◌*◌, ◌≤◌, ◌<◌, get_or}
use mathlib.Core.List.{List, ◌++◌, Memᴰ}
use Rattle.base.specs.Count.{count_below}
use Rattle.base.specs.Bytes.{Bytes}
use Rattle.setup.specs.Setup.{Setup, faults, slot_count}
use Rattle.table.specs.Layout.{count_of, mark_at}
use Rattle.records.specs.Layout.{record_size, part_of}
use Rattle.join.specs.Join.{join_answer, joined, copied}
use Rattle.history.specs.Forks.{forked, NoCollision}
use Rattle.run.specs.Ledger.{Call}
use Rattle.run.specs.Run.{Site, site_after}
use Rattle.run.specs.Promises.{delivered_entry, ledger_of, site_with}
use Rattle.agreement.specs.TwoSites.{TwoSites}
use Rattle.arrival.specs.Arrival.{ArrivalPromise}

-- what joining two sites leaves: the left's table, and the third buffer
abbrev pub join_of : Site → Site → List ℕ → Site
join_of x y third =
    record { table = joined x.table y.table x.records y.records third; records = copied x.table y.table x.records y.records third }

-- no check refuses to join the two sites; so neither of them has retired anything
abbrev pub CanJoin : Site → Site → List ℕ → Type 0
CanJoin x y third = (join_answer x.table y.table x.records y.records third).refusal ≡ 0

-- the records of a site show a number, not 0, as delivered in a slot, at an interpreted place
pub record ShowsDelivered (x : Site) (slot v : ℕ) : Type 0 where
  pub place : ℕ
  pub below : place < count_of x.table
  pub mark : mark_at x.table place ≡ 1
  pub not_zero : v ≢ 0
  pub entry : get_or (part_of x.records place) (record_size * slot + delivered_entry) 0 ≡ v

module _ (digest : Bytes → Bytes) where
  -- "one that calls could have reached": some list of calls, from an empty table and this record buffer, leaves the table and the records of x, and
  -- the blocks that it admits are all in `blocks`
  pub record Reachable (s : Setup) (buffer : List ℕ) (blocks : List Bytes) (x : Site) : Type 0 where
    pub calls : List Call
    pub reaches : site_with digest s buffer calls ≡ x
    pub among : (b : Bytes) → Memᴰ b (ledger_of digest s buffer calls).blocks → Memᴰ b blocks

  -- two sites, each with its setup, its record buffer of any length and content, and its list of calls, refused calls included; and a third buffer
  module _ (s z : Setup) (buffer₁ buffer₂ third : List ℕ) (calls₁ calls₂ : List Call) where
    abbrev pub left : Site
    left = site_with digest s buffer₁ calls₁

    abbrev pub right : Site
    right = site_with digest z buffer₂ calls₂

    abbrev pub result : Site
    result = join_of left right third

    -- the blocks of both ledgers
    abbrev pub blocks : List Bytes
    blocks = (ledger_of digest s buffer₁ calls₁).blocks ++ (ledger_of digest z buffer₂ calls₂).blocks

    -- what holds of the result where two sites that calls reached can be joined
    pub record Covered : Type 0 where
      -- "From tables and records that calls reached, the result is one that calls could have reached"
      pub reachable : Reachable s third blocks result
      -- nothing that was delivered is lost, and nothing else is delivered: the result shows exactly what one of the two sides shows
      pub delivered : (slot v : ℕ) → ShowsDelivered result slot v ↔ (ShowsDelivered left slot v ⊎ ShowsDelivered right slot v)
      -- whatever calls follow, the result goes on as a site that the calls of `reachable` and these have reached; so the theorem of two sites holds
      -- of it and any further site, and the promise of arrival too
      pub goes_on : (more : List Call) → site_with digest s third (reachable.calls ++ more) ≡ site_after digest result more
      pub promised : (more : List Call) (buffer₃ : List ℕ) (calls₃ : List Call) → TwoSites digest s third buffer₃ (reachable.calls ++ more) calls₃
      pub arrives : (more : List Call) → ArrivalPromise digest s third (reachable.calls ++ more)
      -- "so agreement covers joined tables too", told without the calls of `reachable`: where at most f sites forked in the ledgers of the two sides
      -- and of a further site, the result and that site show one number for a slot
      pub agreement : (buffer₃ : List ℕ) (calls₃ : List Call)
          → NoCollision digest (blocks ++ (ledger_of digest s buffer₃ calls₃).blocks)
          → count_below (forked (blocks ++ (ledger_of digest s buffer₃ calls₃).blocks)) s.sites ≤ faults s.sites
          → (slot v w : ℕ) → slot < slot_count → ShowsDelivered result slot v
          → ShowsDelivered result slot w ⊎ ShowsDelivered (site_with digest s buffer₃ calls₃) slot w → v ≡ w
