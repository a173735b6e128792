-- The calls that the arrivals of a listing make, and the deliveries that its lines show. proofs/InterpretationInvariant.antt shows that no
-- interpretation is refused, and proofs/Deliveries.antt that what is shown is delivered in the ledger of these calls.
use Rattle.std.specs.Prelude.{◌≡◌, cond, ◌≢◌, List, [], ◌∷◌, ◌++◌, ℕ, eqb}
use Rattle.base.specs.Bytes.{Bytes}
use Rattle.sha256.specs.Sha256.{sha256}
use Rattle.records.specs.Layout.{delivered_in}
use Rattle.run.specs.Ledger.{Call, admit}
use Rattle.run.specs.Run.{Site}
use Rattle.report.specs.Arrivals.{Arrival, arrived, unread}
use Rattle.report.specs.Listing.{admission_answer, interpretation_call, site_arrived, arrival_refusal}

-- the calls that arrivals make at a site: an admission for each block, and after each admission that succeeds an interpretation
unfoldable pub arrival_calls : Site → List Arrival → List Call
arrival_calls x [] = []
arrival_calls x (unread ∷ rest) = arrival_calls x rest
arrival_calls x (arrived b verdict ∷ rest) =
    admit b verdict
    ∷ (cond (eqb (admission_answer sha256 x b verdict).refusal 0) (interpretation_call sha256 x b verdict ∷ []) []
    ++ arrival_calls (site_arrived sha256 x b verdict) rest)

-- no interpretation is refused: the refusal of each arrival is that of its admission
unfoldable pub NoneRefused : Site → List Arrival → Type 0
NoneRefused x [] = Unit {0}
NoneRefused x (unread ∷ rest) = NoneRefused x rest
NoneRefused x (arrived b verdict ∷ rest) =
    (arrival_refusal sha256 x b verdict ≡ (admission_answer sha256 x b verdict).refusal) × NoneRefused (site_arrived sha256 x b verdict) rest

-- the listing of these arrivals, from this site on, shows the number as delivered in the slot, in a line of one of the arrivals
pub data ListingShows : Site → List Arrival → ℕ → ℕ → Type 0 where
  here : {x : Site} {b : Bytes} {verdict slot v : ℕ} {rest : List Arrival} → arrival_refusal sha256 x b verdict ≡ 0
      → delivered_in (site_arrived sha256 x b verdict).records (admission_answer sha256 x b verdict).value slot ≡ v → v ≢ 0
      → ListingShows x (arrived b verdict ∷ rest) slot v
  later : {x : Site} {b : Bytes} {verdict slot v : ℕ} {rest : List Arrival} → ListingShows (site_arrived sha256 x b verdict) rest slot v
      → ListingShows x (arrived b verdict ∷ rest) slot v
  past : {x : Site} {slot v : ℕ} {rest : List Arrival} → ListingShows x rest slot v → ListingShows x (unread ∷ rest) slot v
