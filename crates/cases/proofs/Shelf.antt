-- The cases of the shelf, by computing. Assumes nothing.
use mathlib.Core.Path.{refl}
use mathlib.Core.Bool.{Bool, true}
use Rattle.base.specs.Count.{sum_below}
use Rattle.base.specs.List.{some_in, count_in}
use Rattle.shelf.specs.Layout.{waiting_in, entry_bytes, shelf_bytes}
use Rattle.shelf.specs.Rules.{holds, has_place, waits, each_sound, shared, rules_hold}
use Rattle.shelf.specs.Form.{shelf_in_form}
use Rattle.cases.specs.Shelf.{lacking_reference, sharing, three_waiting, of_three, LimitCases, PlaceCases, SameBytesCases, ShelfBytesCases, ShelfFormCases}
use Rattle.cases.proofs.Computing.{opened_table}

-- what the rules of the shelf and its form are computed by
unfoldable pub opened_shelf : Bool
unfolding opened_table sum_below some_in count_in waiting_in entry_bytes shelf_bytes holds has_place waits each_sound shared rules_hold shelf_in_form lacking_reference
    sharing three_waiting of_three
opened_shelf = true

pub limits : LimitCases
limits =
    record {
      places = refl;
      campaigns = refl;
      last_campaign = refl;
      always = refl;
      most = refl;
      left_by_the_others = refl;
      entry_length = refl;
      shelf_length = refl;
      outcome_numbers = refl;
    }

pub places : PlaceCases
unfolding opened_shelf
places =
    record {
      none_held = refl;
      one_held = refl;
      two_held = refl;
      tenth = refl;
      eleventh = refl;
      tenth_beside_twos = refl;
      eleventh_beside_twos = refl;
      others_hold_none = (refl, refl);
      others_hold_one = (refl, refl);
      others_hold_two = (refl, refl);
      others_mixed = (refl, refl);
      own_lack = (refl, refl);
      own_lack_of_the_last = (refl, refl);
      full_shelf = refl;
    }

pub same_bytes : SameBytesCases
unfolding opened_shelf
same_bytes = record { they_wait = refl; for_another = refl; other_bytes = refl; longer_one = refl; shorter_one = refl }

pub shelf_bytes_cases : ShelfBytesCases
unfolding opened_shelf
shelf_bytes_cases = record { entry_written = refl; high_length = refl; entries_in_order = refl; nothing_waits = refl; shown = refl }

pub shelf_form : ShelfFormCases
unfolding opened_shelf
shelf_form =
    record {
      shelf_formed = refl;
      empty_formed = refl;
      shelf_shorter = refl;
      shelf_longer = refl;
      no_bytes = refl;
      sixteen_wait = refl;
      seventeen_wait = refl;
      count_seventeen = refl;
      count_more = refl;
      count_less = refl;
      campaign_three = refl;
      campaign_four = refl;
      byte_four = refl;
      readable = refl;
      unreadable = refl;
      misshapen = refl;
      repeated_slot = refl;
      repeated_reference = refl;
      length_over = refl;
      six_requests_wait = refl;
      first_behind_block = refl;
      last_behind_block = refl;
      first_behind_entries = refl;
      last_behind_entries = refl;
      same_for_another = refl;
      same_twice = refl;
      same_twice_apart = refl;
      ten_held = refl;
      eleven_held = refl;
      covered_one = refl;
      covered_two = refl;
      covered_each = refl;
      short_of_one = refl;
      short_of_each = refl;
      lacks_nothing = refl;
      any_site = refl;
    }
