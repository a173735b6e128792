-- The listing's bytes and text, by computing. Assumes nothing.
use mathlib.Core.Path.{refl}
use mathlib.Core.Bool.{Bool, true}
use Rattle.table.specs.Layout.{with_mark}
use Rattle.table.specs.Fresh.{fresh_table}
use Rattle.records.specs.Layout.{flatten, record_at, numbers_of}
use Rattle.interpret.specs.Interpretation.{join_if, directs_below, record_for, marked, recorded}
use Rattle.report.specs.Text.{ascii, digits, decimal, field_text, ending, line, names, refusal_line, delivery_line, delivery_text}
use Rattle.report.specs.Arrivals.{first_arrival, arrivals, arrivals_in}
use Rattle.report.specs.Listing.{delivery_lines, site_arrived, arrival_refusal, arrival_lines, listing_from, listing}
use Rattle.cases.specs.Listing.{saying_ready, before, ListingCases}
use Rattle.cases.proofs.Computing.{opened_ledger, opened_watch}

unfoldable opened_listing : Bool
unfolding opened_ledger opened_watch ascii digits decimal field_text ending line names refusal_line delivery_line delivery_text first_arrival arrivals arrivals_in delivery_lines
    site_arrived arrival_refusal arrival_lines listing_from listing flatten record_at join_if directs_below record_for with_mark fresh_table numbers_of marked recorded saying_ready before
opened_listing = true

pub listing_cases : ListingCases
unfolding opened_listing
listing_cases =
    record {
      first_line = refl;
      values_in_order = refl;
      input_read = refl;
      overlong_skipped = refl;
      longer_skipped = refl;
      lower_slot_first = refl;
      refused_counted = refl;
      slot_twice = refl;
      setup_short = refl;
      setup_unlawful = refl;
    }
