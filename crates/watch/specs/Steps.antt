-- What the contracts of inner functions cite: what an entry point has tested. Nothing here need be believed.
use Rattle.std.specs.Prelude.{cond, ℕ, zero, suc, ◌%◌, ◌≤◌, ◌<◌}
use Rattle.std.specs.Int.Bits.{bit_or}
use Rattle.base.specs.Mask.{in_mask}
use Rattle.base.specs.Steps.{print_count, prints_below}
use Rattle.base.specs.Bytes.{Bytes}
use Rattle.setup.specs.Setup.{max_sites}
use Rattle.table.specs.View.{max_places}
use Rattle.table.specs.Layout.{setup_of, count_of, site_at, sequence_at, references_at}

-- a table with a count up to 64, whose blocks are of sites below n, and n is at most 16, so that a mask of sixteen bits has room
pub record Watchable (t : Bytes) : Type 0 where
  pub held : count_of t ≤ max_places
  pub few : (setup_of t).sites ≤ max_sites
  pub sites : (i : ℕ) → i < count_of t → site_at t i < (setup_of t).sites

-- the print of a block among the blocks of its site, made from its sequence number
abbrev pub sequence_print : Bytes → ℕ → ℕ
sequence_print t i = sequence_at t i % print_count

-- the mask of the prints that the blocks of its site at lower places have
abbrev pub sequence_prints_met : Bytes → ℕ → ℕ
sequence_prints_met t i = prints_below (site_at t) (sequence_print t) i (site_at t i)

-- the mask that a mask of places grows to: for each place below k, from the highest down, if the place is in the mask, the places that it refers to
-- are added
unfoldable pub gathered : Bytes → ℕ → ℕ → ℕ
gathered t zero mask = mask
gathered t (suc k) mask = gathered t k (cond (in_mask mask k) (bit_or mask (references_at t k)) mask)
