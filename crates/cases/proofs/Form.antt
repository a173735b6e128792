-- The tables in form and out of it, by computing. Assumes nothing.
use mathlib.Core.Path.{refl}
use Rattle.cases.specs.Form.{FormCases}
use Rattle.cases.proofs.Computing.{opened_table}

pub form : FormCases
unfolding opened_table
form =
    record {
      formed = refl;
      shorter = refl;
      longer = refl;
      five_sites = refl;
      owner_four = refl;
      sixty_five = refl;
      first_after = refl;
      last_after = refl;
      sixteen_references = refl;
      seventeen_references = refl;
      each_slot_requested = refl;
      same_digest = refl;
      site_four = refl;
      itself = refl;
      higher_held = refl;
      beyond = refl;
      mark_two = refl;
      reference_marked = refl;
      reference_unmarked = refl;
      one_parent = refl;
      no_parent = refl;
      parent_of_higher_sequence = refl;
      two_parents = refl;
      retired_empty = refl;
      retired_four = refl;
      retired_two = refl;
      missing_parent = refl;
      missing_uninterpreted = refl;
      missing_unretired = refl;
      retired_two_parents = refl;
    }
