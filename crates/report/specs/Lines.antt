-- What stands in the text of a listing: a delivery's line for each number that the listing shows (`ListingShows` of specs/ListingCalls.antt),
-- and no other delivery's line. proofs/ListingText.antt shows it.
use Rattle.std.specs.Prelude.{◌≡◌, true, cond, ◌↔◌, ◌≢◌, ◌⊎◌, ℕ, ◌<◌, eqb, drop}
use mathlib.Core.List.{List, [], ◌∷◌, ◌++◌, Memᴰ}
use Rattle.base.specs.Bytes.{Bytes, concat}
use Rattle.sha256.specs.Sha256.{sha256}
use Rattle.setup.specs.Setup.{lawful, slot_count}
use Rattle.run.specs.Run.{started}
use Rattle.report.specs.declared.Delivery.{Delivery}
use Rattle.report.specs.Text.{Field}
use Rattle.report.specs.Text.{line_feed, names, refusal_line, delivery_line}
use Rattle.report.specs.Arrivals.{setup_size, setup_in, arrivals_in}
use Rattle.report.specs.Listing.{listing}
use Rattle.report.specs.ListingCalls.{ListingShows}

-- the lines of a text, each with its line feed, where `before` is the beginning of the first line; what stands behind the last line feed is in no
-- line
unfoldable pub lines_after : Bytes → Bytes → List Bytes
lines_after before [] = []
lines_after before (c ∷ rest) =
    cond (eqb c line_feed) ((before ++ (c ∷ [])) ∷ lines_after [] rest) (lines_after (before ++ (c ∷ [])) rest)

-- the lines of a text
abbrev pub lines_in : Bytes → List Bytes
lines_in text = lines_after [] text

-- the text of this delivery's line is not that of another delivery, of a refusal, or of the names
pub record Legible (d : Delivery) : Type 0 where
  pub delivery : (e : Delivery) → delivery_line d ≡ delivery_line e → d ≡ e
  pub not_refusal : (what : Field) (refusal : ℕ) → delivery_line d ≢ refusal_line what refusal
  pub not_names : delivery_line d ≢ names

-- the listing of an input, with a record buffer of any content
module _ (buffer : List ℕ) (input : Bytes) where
  abbrev pub text : Bytes
  text = listing sha256 buffer input

  -- a delivery's line stands in the text with this slot and this number
  pub record LineShows (slot v : ℕ) : Type 0 where
    pub delivery : Delivery
    pub in_slot : delivery.slot ≡ slot
    pub is_number : delivery.number ≡ v
    pub stands : Memᴰ (delivery_line delivery) (lines_in text)

  -- what holds of the text of a listing
  pub record TextKeeps : Type 0 where
    -- the text is its lines, with nothing behind the last
    pub whole : concat (lines_in text) ≡ text
    -- each line is the line of names, a delivery's line or a refusal's line
    pub kinds : (line : Bytes) → Memᴰ line (lines_in text)
        → (line ≡ names) ⊎ (((d : Delivery) × (line ≡ delivery_line d)) ⊎ ((what : Field) × (refusal : ℕ) × (line ≡ refusal_line what refusal)))
    -- the text of a delivery's line tells which delivery it is
    pub legible : (d : Delivery) → Legible d
    -- where the setup is lawful, a delivery's line of a slot and a number stands in the text exactly if the listing shows that number for that slot;
    -- and the slot of a delivery's line is always below 8
    pub shown : lawful (setup_in input) ≡ true → (slot v : ℕ) → slot < slot_count
        → ListingShows (started (setup_in input) buffer) (arrivals_in (drop setup_size input)) slot v ↔ LineShows slot v
    pub slots : (d : Delivery) → Memᴰ (delivery_line d) (lines_in text) → d.slot < slot_count
