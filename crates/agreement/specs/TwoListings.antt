-- What the theorem of two sites says of two listings: two listings of one setup never show two numbers for one slot while at most f sites forked. It
-- is told first of the deliveries that are shown, and then of the lines of the texts; proofs/TwoListings.antt shows it.
use Rattle.std.specs.Prelude.{◌≡◌, true, ℕ, ◌≤◌, ◌<◌, length, drop}
use mathlib.Core.List.{List, ◌++◌, Memᴰ}
use Rattle.base.specs.Bytes.{Bytes}
use Rattle.base.specs.Count.{count_below}
use Rattle.sha256.specs.Sha256.{sha256}
use Rattle.setup.specs.Setup.{Setup, lawful, faults, slot_count}
use Rattle.records.specs.Layout.{buffer_size}
use Rattle.history.specs.Forks.{forked, NoCollision}
use Rattle.run.specs.Run.{started}
use Rattle.run.specs.Promises.{ledger_of}
use Rattle.report.specs.declared.Delivery.{Delivery}
use Rattle.report.specs.Text.{delivery_line}
use Rattle.report.specs.Arrivals.{Arrival, setup_size, setup_in, arrivals_in}
use Rattle.report.specs.ListingCalls.{arrival_calls, NoneRefused, ListingShows}
use Rattle.report.specs.Lines.{lines_in, text}

-- two inputs of one setup, each listed with a record buffer of any content
module _ (s : Setup) (buffer₁ buffer₂ : List ℕ) (arrivals₁ arrivals₂ : List Arrival) where
  -- the blocks that either listing admitted
  abbrev pub blocks_of_arrivals : List Bytes
  blocks_of_arrivals =
      (ledger_of sha256 s buffer₁ (arrival_calls (started s buffer₁) arrivals₁)).blocks
      ++ (ledger_of sha256 s buffer₂ (arrival_calls (started s buffer₂) arrivals₂)).blocks

  pub record TwoListings : Type 0 where
    -- no interpretation is refused where the record buffer has the right length, so no line of the listing has refusal 12 to 15
    pub settled : length buffer₁ ≡ buffer_size → NoneRefused (started s buffer₁) arrivals₁
    -- where at most f sites forked, the lines of the two listings have one number for a slot
    pub one_number : NoCollision sha256 blocks_of_arrivals → count_below (forked blocks_of_arrivals) s.sites ≤ faults s.sites
        → (slot v w : ℕ) → slot < slot_count → ListingShows (started s buffer₁) arrivals₁ slot v → ListingShows (started s buffer₂) arrivals₂ slot w → v ≡ w

-- two inputs of one lawful setup, each listed with a record buffer of any content
module _ (buffer₁ buffer₂ : List ℕ) (input₁ input₂ : Bytes) where
  abbrev pub setup : Setup
  setup = setup_in input₁

  -- the blocks that either listing admitted
  abbrev pub blocks_of_inputs : List Bytes
  blocks_of_inputs = blocks_of_arrivals setup buffer₁ buffer₂ (arrivals_in (drop setup_size input₁)) (arrivals_in (drop setup_size input₂))

  pub record TwoTexts : Type 0 where
    -- where at most f sites forked, the deliveries' lines of the two texts have one number for a slot
    pub one_number : lawful setup ≡ true → setup_in input₂ ≡ setup → NoCollision sha256 blocks_of_inputs → count_below (forked blocks_of_inputs) setup.sites ≤ faults setup.sites
        → (d e : Delivery) → Memᴰ (delivery_line d) (lines_in (text buffer₁ input₁)) → Memᴰ (delivery_line e) (lines_in (text buffer₂ input₂))
        → d.slot ≡ e.slot → d.number ≡ e.number
