-- Document 01, "Building", and request Fourteen, "Call a site full": a site that has retired nothing and only builds by the building rule, whose
-- every block was built from its table as it stood and admitted to it, is full by the blocks of its own ledger; and it is full by the blocks of any
-- other site's ledger that has no further block of it.
use Rattle.std.specs.Prelude.{◌≡◌, ℕ, take}
use mathlib.Core.List.{List, [], ◌∷◌, ◌++◌, Memᴰ}
use Rattle.base.specs.Bytes.{Bytes}
use Rattle.setup.specs.Setup.{Setup}
use Rattle.block.specs.Layout.{site_of}
use Rattle.build.specs.Building.{building, built}
use Rattle.history.specs.Forks.{NoCollision}
use Rattle.run.specs.Ledger.{Call, admit, interpret, retire, take_back, Ledger}
use Rattle.run.specs.Run.{Site, started, site_answer, site_step}
use Rattle.run.specs.Promises.{ledger_of}
use Rattle.arrival.specs.Full.{BlockBy, Full}

-- block b is what building writes for site p from the table t, with some requests, to an output that has room
pub record BuiltFrom (t : Bytes) (p : ℕ) (b : Bytes) : Type 0 where
  pub requests : Bytes
  pub output : Bytes
  pub success : (building t p requests output).refusal ≡ 0
  pub writes : take (building t p requests output).value (built t p requests output) ≡ b

module _ (digest : Bytes → Bytes) (p : ℕ) where
  -- if the call admits a block of site p, that block was built from the table as it stands before the call
  unfoldable pub OwnIsBuilt : Site → Call → Type 0
  OwnIsBuilt x (admit b verdict) = site_of b ≡ p → (site_answer digest x (admit b verdict)).refusal ≡ 0 → BuiltFrom x.table p b
  OwnIsBuilt x (interpret place) = Unit {0}
  OwnIsBuilt x retire = Unit {0}
  OwnIsBuilt x take_back = Unit {0}

  -- every call of a list that admits a block of site p admits one that was built from the table as it stands before that call
  unfoldable pub BuildsByRule : Site → List Call → Type 0
  BuildsByRule x [] = Unit {0}
  BuildsByRule x (c ∷ cs) = OwnIsBuilt x c × BuildsByRule (site_step digest x c) cs

-- two sites of one setup: calls₁ are the calls at the table of site p itself, and calls₂ those at another site's table
module _ (digest : Bytes → Bytes) (s : Setup) (buffer₁ buffer₂ : List ℕ) (calls₁ calls₂ : List Call) where
  abbrev ledger₁ : Ledger
  ledger₁ = ledger_of digest s buffer₁ calls₁

  abbrev ledger₂ : Ledger
  ledger₂ = ledger_of digest s buffer₂ calls₂

  -- a site p that builds by the rule is full
  pub record BuildersFull (p : ℕ) : Type 0 where
    -- site p is full by the blocks of its own ledger, as long as it has retired nothing
    pub here : ledger₁.retired ≡ [] → BuildsByRule digest p (started s buffer₁) calls₁ → Full digest ledger₁.blocks p
    -- site p is full by the blocks of the other site's ledger, if that has no block of site p which is not in its own ledger
    pub elsewhere : ledger₁.retired ≡ [] → BuildsByRule digest p (started s buffer₁) calls₁ → NoCollision digest (ledger₁.blocks ++ ledger₂.blocks)
        → ((b : Bytes) → BlockBy ledger₂.blocks p b → Memᴰ b ledger₁.blocks) → Full digest ledger₂.blocks p
