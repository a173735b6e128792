-- The steps keep their promises: the first makes the table of a lawful setup, or ends the listing. Assumes nothing.
use mathlib.Core.Path.{◌≡◌, ap₂}
use mathlib.Core.Bool.{true, false}
use mathlib.Core.List.{◌++◌}
use Prim.Native.Nat.{ℕ, ◌≤◌, ◌<◌}
use native.Mathlib.Omega.{arith}
use lib.ListN.{length, take, drop, length-take, length-drop}
use lib.Seq.{get_or-take}
use Rattle.base.specs.Bytes.{Bytes, concat}
use Rattle.base.proofs.Tests.{by_test}
use Rattle.base.proofs.Parts.{part_of_front}
use Rattle.setup.specs.Setup.{Setup, lawful, slot_count}
use Rattle.setup.proofs.Thresholds.{eight_owners}
use Rattle.table.specs.Layout.{table_size}
use Rattle.run.specs.Run.{Site, started}
use Rattle.report.specs.Text.{names, setup_line}
use Rattle.report.specs.Arrivals.{setup_size, setup_in}
use Rattle.report.specs.Listing.{listing}
use Rattle.report.specs.Framing.{piece_size, wanted_by, count_limit, outcome_of, start, setup_step, step_by, site_by}
use Rattle.report.specs.Promises.{Promises}
use Rattle.report.specs.declared.Expected.{Expected}
use Rattle.report.specs.declared.Expected.TheVariants.{Length, Block, Skip, End}
use Rattle.report.proofs.Setups.{unlawful_refused, lawful_made, table_made}
use Rattle.report.proofs.Frames.{listing_in}
use Rattle.report.proofs.EnoughTurns.{Writes, stops, goes_on}
use Rattle.report.proofs.ArrivalLines.{lists}
use Rattle.report.proofs.GatheredLines.{within, stopped, written}
use Rattle.report.proofs.InputParts.{listed_in_parts, reached}

wanted_small : (e : Expected) → wanted_by e ≤ piece_size
unfolding wanted_by
wanted_small Expected.Setup = omega arith
wanted_small Length = omega arith
wanted_small (Block size) = omega arith
wanted_small (Skip left) = omega arith
wanted_small End = omega arith

module _ (digest : Bytes → Bytes) (input : Bytes) (x : Site) where
  abbrev setup : Setup
  setup = setup_in input

  -- the first piece has the input's setup
  same_setup_lem : setup_in (take setup_size input) ≡ setup
  same_setup_lem =
      ap₂ (λ (n : ℕ) (owners : Bytes). record { sites = n; owners = owners })
      (get_or-take setup_size input 0 0 (omega arith)) (part_of_front 1 slot_count setup_size input (omega arith))

  unlawful_listed : lawful setup ≡ false → Writes digest start x input (listing digest x.records input)
  unfolding listing step_by setup_step wanted_by
  unlawful_listed law = rw law (stops digest start x input 0 (names ++ setup_line 1) (rw (same_setup_lem, unlawful_refused setup x.table law)))

  lawful_listed : lawful setup ≡ true → length x.table ≡ table_size → length input < count_limit → Writes digest start x input (listing digest x.records input)
  unfolding listing step_by setup_step site_by wanted_by
  lawful_listed law sized few =
      let site : Site = started setup x.records in
      let owners : length (take slot_count (drop 1 input)) ≡ slot_count = eight_owners setup law in
      rw law
      (goes_on digest start x input (outcome_of Length 0 names) site (listing_in digest 0 site (drop setup_size input))
      (rw (same_setup_lem, lawful_made setup x.table law sized)) (rw (same_setup_lem, table_made setup x.table law sized))
      (omega arith) (omega (arith, length-take slot_count (drop 1 input), length-drop 1 input))
      (lists digest 0 site (drop setup_size input) (omega (arith, length-drop setup_size input))))

  input_listed : length x.table ≡ table_size → length input < count_limit → Writes digest start x input (listing digest x.records input)
  input_listed sized few = by_test (lawful setup) (λ law. lawful_listed law sized few) unlawful_listed

pub promises : (digest : Bytes → Bytes) → Promises digest
promises digest =
    record {
      listed = λ input x turns few sized enough. input_listed digest input x sized few turns enough;
      gathered = λ unread more is_ended size s x turns none. written digest unread is_ended size more none s x turns;
      used_there = λ unread is_ended size s x. within digest unread is_ended size s x;
      all_due = λ unread is_ended size s x. stopped digest unread is_ended size s x;
      listed_in_parts = λ parts x size last few sized end.
          listed_in_parts digest size parts x last (listing digest x.records (concat parts)) (input_listed digest (concat parts) x sized few) end;
      reached = λ parts x size last room enough. reached digest size room parts x last enough;
      small = λ s. wanted_small s.expected;
    }
