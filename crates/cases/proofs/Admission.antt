-- The cases of admission hold. Assumes nothing.
use mathlib.Core.Path.{◌≡◌, refl}
use mathlib.Core.List.{[], ◌∷◌}
use Rattle.answer.specs.Checks.{refused}
use Rattle.cases.specs.Toy.{toy}
use Rattle.cases.specs.Run.{good, table_after, answers}
use Rattle.cases.specs.Blocks.{sites, fresh, unlawful, numbered, holding}
use Rattle.cases.specs.Admission.{OrderCases, RowCases, ValueCases}
use Rattle.cases.proofs.LedgerRun.{site_answers_lem}
use Rattle.cases.proofs.Computing.{opened_ledger, opened_table}
use Rattle.cases.proofs.Full.{parent_before_full}

-- a table of three sites, which no ledger has
form_before_shape :
    (answers toy unlawful (good (0 ∷ 0 ∷ 0 ∷ 0 ∷ []) ∷ []) ≡ refused 2 0 ∷ []) × (answers toy fresh (good (0 ∷ 0 ∷ 0 ∷ 0 ∷ []) ∷ []) ≡ refused 3 0 ∷ [])
unfolding opened_table
form_before_shape = (refl, refl)

filling : table_after toy fresh (good (numbered 0) ∷ good (numbered 1) ∷ []) ≡ holding 2
unfolding opened_table
filling = refl

pub order : OrderCases
unfolding opened_ledger
order =
    record {
      form_before_shape = form_before_shape;
      shape_before_site = site_answers_lem (sites 4) refl _ _ refl;
      site_before_verdict = site_answers_lem (sites 4) refl _ _ refl;
      verdict_before_request = site_answers_lem (sites 4) refl _ _ refl;
      verdict_before_slot = site_answers_lem (sites 4) refl _ _ refl;
      request_before_slot = site_answers_lem (sites 4) refl _ _ refl;
      slot_before_repeated = site_answers_lem (sites 4) refl _ _ refl;
      repeated_before_held = site_answers_lem (sites 4) refl _ _ refl;
      held_before_missing = site_answers_lem (sites 4) refl _ _ refl;
      missing_before_parent = site_answers_lem (sites 4) refl _ _ refl;
      parent_before_full = parent_before_full;
      filling = filling;
    }

pub rows : RowCases
unfolding opened_table
rows =
    record {
      written = refl;
      count = refl;
      digests = refl;
      site_numbers = refl;
      sequences = refl;
      references = refl;
      one_request = refl;
      two_requests = refl;
      marks = refl;
      rest = refl;
      high_sequence = refl;
    }

pub values : ValueCases
unfolding opened_ledger
values =
    record {
      own_site = site_answers_lem (sites 4) refl _ _ refl;
      beside_parent = site_answers_lem (sites 4) refl _ _ refl;
      own_later = site_answers_lem (sites 4) refl _ _ refl;
      one_fork = site_answers_lem (sites 4) refl _ _ refl;
      other_site = site_answers_lem (sites 4) refl _ _ refl;
      high_byte = site_answers_lem (sites 4) refl _ _ refl;
      verdict_two = site_answers_lem (sites 4) refl _ _ refl;
      slot_eight = site_answers_lem (sites 4) refl _ _ refl;
      number_none = site_answers_lem (sites 4) refl _ _ refl;
      requested_twice = site_answers_lem (sites 4) refl _ _ refl;
      repeated_slots = site_answers_lem (sites 4) refl _ _ refl;
      repeated_later = site_answers_lem (sites 4) refl _ _ refl;
      held_place = site_answers_lem (sites 4) refl _ _ refl;
      missing_index = site_answers_lem (sites 4) refl _ _ refl;
    }
