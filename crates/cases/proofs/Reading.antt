-- Reading at a block's limits, and where two checks fail, by computing. Assumes nothing.
use mathlib.Core.Path.{refl}
use Rattle.cases.specs.Reading.{ReadingCases}
use Rattle.cases.proofs.Computing.{opened_table}

pub reading_cases : ReadingCases
unfolding opened_table
reading_cases =
    record {
      most_requests = refl;
      longest_block = refl;
      longest_list = refl;
      most_references = refl;
      four_bytes = refl;
      five_bytes = refl;
      five_requests = (refl, refl);
      six_requests = refl;
      eight_requests = (refl, refl);
      byte_less = refl;
      byte_more = refl;
      six_alone = refl;
      seventeen_alone = refl;
      same_requests = refl;
      other_number = refl;
      thrice_stated = refl;
      first_and_last = refl;
      two_repeated = refl;
      one_number = refl;
      request_first = (refl, refl);
      slot_first = (refl, refl);
    }
