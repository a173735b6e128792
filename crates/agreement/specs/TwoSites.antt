-- The theorem of two sites, which document 01 calls demand 3, in its words ("Interpreting a place"): what two lists of calls leave behind at two
-- sites of one setup.
use Rattle.std.specs.Prelude.{◌≡◌, ◌⊎◌, List, ◌++◌, ℕ, ◌≤◌, ◌<◌}
use Rattle.base.specs.Bytes.{Bytes}
use Rattle.base.specs.Count.{count_below}
use Rattle.setup.specs.Setup.{Setup, faults, slot_count}
use Rattle.records.specs.Layout.{part_of}
use Rattle.history.specs.Forks.{forked, NoCollision}
use Rattle.run.specs.Ledger.{Call, Ledger}
use Rattle.run.specs.Run.{Site}
use Rattle.run.specs.Promises.{Interpreted, Delivered, ledger_of, site_with, SiteKeeps, AnswersKeep}

-- two sites of one setup, each with its record buffer, of any length and content, and its list of calls, refused ones included
module _ (digest : Bytes → Bytes) (s : Setup) (buffer₁ buffer₂ : List ℕ) (calls₁ calls₂ : List Call) where
  abbrev pub ledger₁ : Ledger
  ledger₁ = ledger_of digest s buffer₁ calls₁

  abbrev pub ledger₂ : Ledger
  ledger₂ = ledger_of digest s buffer₂ calls₂

  abbrev pub site₁ : Site
  site₁ = site_with digest s buffer₁ calls₁

  abbrev pub site₂ : Site
  site₂ = site_with digest s buffer₂ calls₂

  -- v is delivered in the slot in a block that either site has interpreted
  abbrev pub DeliveredAtEither : ℕ → ℕ → Type 0
  DeliveredAtEither slot v = Delivered digest s ledger₁ slot v ⊎ Delivered digest s ledger₂ slot v

  pub record TwoSites : Type 0 where
    -- each site keeps to its ledger, and so do the answers of its calls
    pub first : SiteKeeps digest s ledger₁ site₁
    pub second : SiteKeeps digest s ledger₂ site₂
    pub first_answers : AnswersKeep digest s buffer₁ calls₁
    pub second_answers : AnswersKeep digest s buffer₂ calls₂
    -- a block that is interpreted at both sites has the same part at both
    pub same : NoCollision digest (ledger₁.blocks ++ ledger₂.blocks) → (i j : ℕ) → Interpreted ledger₁ i → Interpreted ledger₂ j
        → ledger₁.block i ≡ ledger₂.block j → part_of site₁.records i ≡ part_of site₂.records j
    -- where at most f sites forked, no slot has two delivered numbers, at one site or at both
    pub agreement : NoCollision digest (ledger₁.blocks ++ ledger₂.blocks)
        → count_below (forked (ledger₁.blocks ++ ledger₂.blocks)) s.sites ≤ faults s.sites
        → (slot v w : ℕ) → slot < slot_count → DeliveredAtEither slot v → DeliveredAtEither slot w → v ≡ w
