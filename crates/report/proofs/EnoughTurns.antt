-- What a run writes with any number of turns that is enough: where a step ends the listing, that step's lines; where it takes a byte, its lines
-- and what the run writes from there. Assumes nothing.
use mathlib.Core.Path.{◌≡◌, refl, ap, ap₂, ◌∙◌}
use mathlib.Core.List.{[], ◌++◌, append-nil}
use Prim.Native.Nat.{ℕ, zero, suc, ◌≤◌, ◌<◌}
use native.Mathlib.Omega.{arith}
use lib.ListN.{length, take, drop, length-drop}
use Rattle.base.specs.Bytes.{Bytes}
use Rattle.run.specs.Run.{Site}
use Rattle.report.specs.Framing.{wanted_by, wanted, expecting, Outcome, outcome_of, step_by, stepped, site_by, site_stepped, run}
use Rattle.report.specs.declared.Expected.TheVariants.{Length, End}
use Rattle.report.specs.declared.ListingState.{ListingState}
use Rattle.report.proofs.Ways.{length_none}

module _ (digest : Bytes → Bytes) where
  -- one turn more than there are bytes is enough
  abbrev pub Writes : ListingState → Site → Bytes → Bytes → Type 0
  Writes s x input text = (turns : ℕ) → length input < turns → run digest turns s x input ≡ text

  -- nothing is written after the end
  pub ended : (turns arrival : ℕ) (x : Site) (input : Bytes) → run digest turns (expecting End arrival) x input ≡ []
  unfolding run step_by site_by wanted_by
  ended zero arrival x input = refl
  ended (suc turns) arrival x input = ended turns arrival x input

  module _ (s : ListingState) (x : Site) (input : Bytes) where
    pub stops : (arrival : ℕ) (lines : Bytes) → stepped digest s x (take (wanted s) input) ≡ outcome_of End arrival lines → Writes s x input lines
    unfolding run
    stops arrival lines e zero h = absurd (omega arith)
    stops arrival lines e (suc turns) h =
        let y : Site = site_stepped digest s x (take (wanted s) input) in
        ap (λ (o : Outcome). o.lines ++ run digest turns o.state y (drop (wanted s) input)) e
        ∙ ap (λ (rest : Bytes). lines ++ rest) (ended turns arrival y (drop (wanted s) input))
        ∙ append-nil lines

    pub goes_on : (o : Outcome) (y : Site) (text : Bytes) → stepped digest s x (take (wanted s) input) ≡ o → site_stepped digest s x (take (wanted s) input) ≡ y
        → 1 ≤ wanted s → 1 ≤ length input → Writes o.state y (drop (wanted s) input) text → Writes s x input (o.lines ++ text)
    unfolding run
    goes_on o y text e f some more w zero h = absurd (omega arith)
    goes_on o y text e f some more w (suc turns) h =
        ap₂ (λ (o : Outcome) (y : Site). o.lines ++ run digest turns o.state y (drop (wanted s) input)) e f
        ∙ ap (λ (rest : Bytes). o.lines ++ rest) (w turns (omega (arith, length-drop (wanted s) input)))

  -- no arrival is left
  pub nothing_left : (arrival : ℕ) (x : Site) → Writes (expecting Length arrival) x [] []
  unfolding step_by wanted_by
  nothing_left arrival x = stops (expecting Length arrival) x [] arrival [] (length_none arrival [] refl)
