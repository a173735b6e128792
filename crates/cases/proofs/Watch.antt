-- What the watch says of small tables, by computing. Assumes nothing.
use mathlib.Core.Path.{refl}
use Rattle.cases.specs.Watch.{two_of, four_in_row, WatchCases}
use Rattle.cases.proofs.Computing.{opened_watch}

pub watch : WatchCases
unfolding opened_watch two_of four_in_row
watch =
    record {
      nobody = refl;
      one = refl;
      two = refl;
      interpreted_too = refl;
      other_site = refl;
      other_sequence = refl;
      other_high_byte = refl;
      other_low_byte = refl;
      both_bytes = refl;
      not_in_form = refl;
      nothing = refl;
      direct = refl;
      further = refl;
      three_away = refl;
      no_form = refl;
      not_held = refl;
    }
