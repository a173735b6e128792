-- What sites build from small tables, and the order of the checks, by computing. Assumes nothing.
use mathlib.Core.Path.{refl}
use Rattle.cases.specs.Building.{returned_row, returned, BuildingOrderCases, BuildingCases}
use Rattle.cases.proofs.Computing.{opened_watch}

pub order : BuildingOrderCases
unfolding opened_watch
order =
    record {
      form_before_site = (refl, refl);
      site_before_list = (refl, refl);
      list_before_request = (refl, refl);
      request_before_slot = (refl, refl);
      slot_before_fork = (refl, refl);
      fork_before_output = (refl, refl);
      fork_before_end = (refl, refl);
      end_before_output = (refl, refl);
    }

pub building : BuildingCases
unfolding opened_watch returned_row returned
building =
    record {
      last_sequence = refl;
      past_last = refl;
      past_last_other = refl;
      five_listed = refl;
      sixteen_bytes = refl;
      six_listed = refl;
      eight_listed = refl;
      slots_repeated = refl;
      repeated_stays = refl;
      longest_built = refl;
      longest_short = refl;
      exact = refl;
      short = refl;
      stays = refl;
      refused_stays = refl;
      first_block = refl;
      next_one = refl;
      greatest_first = refl;
      greatest_not_last = refl;
      greatest_not_last_built = refl;
      sixteen = refl;
      fifteen_others = refl;
    }
