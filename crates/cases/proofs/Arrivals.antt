-- The cases of arrivals, by computing. Assumes nothing.
use mathlib.Core.Path.{◌≡◌, refl, ◌∙◌}
use mathlib.Core.Bool.{Bool, true}
use mathlib.Core.List.{[], ◌∷◌}
use Rattle.base.specs.List.{some_in}
use Rattle.base.specs.Bytes.{Bytes}
use Rattle.answer.specs.Buffer.{put_answer, put_answers}
use Rattle.answer.specs.Checks.{refused}
use Rattle.admission.specs.Admission.{admission, admitted}
use Rattle.campaigns.specs.Passes.{outcomes_of, admits, pass, passes, settled}
use Rattle.campaigns.specs.Arriving.{shelved, arrived, arrival}
use Rattle.cases.specs.Toy.{toy}
use Rattle.cases.specs.Run.{placed}
use Rattle.cases.specs.Blocks.{numbered, holding}
use Rattle.cases.specs.Shelf.{◌for◌, lacking_reference}
use Rattle.cases.specs.Arrivals.{beside, partly, orphan, after_last, table_of, chain_block, damaged, leaving, ◌getting◌, lacks, arrives, ArrivalOrderCases, MissingCases, PassCases, OutcomeCases, ArrivalLeftCases}
use Rattle.cases.proofs.Shelf.{opened_shelf}
use Rattle.cases.proofs.Full.{answer_at, next_table, answer_is, table_is, last_placed, last_leaves, full_formed}

-- what an arrival is computed by
unfoldable opened_arrivals : Bool
unfolding opened_shelf outcomes_of admits pass passes settled shelved arrived arrival put_answer put_answers beside partly orphan after_last table_of
    chain_block damaged
opened_arrivals = true

-- ---- a full table

-- what an arrival leaves, by admission's answer to it and to the one that waits
waits_alone : (t b : Bytes) → admission toy t b 1 ≡ lacks 0 → arrives t [] 0 b 1 ≡ leaving (lacks 0) t (b for 0 ∷ []) []
unfolding opened_shelf shelved arrived
waits_alone t b e = rw e

is_dropped : (t t' b w : Bytes) → admission toy t b 1 ≡ placed 63 → admitted toy t b 1 ≡ t'
    → admission toy t' w 1 ≡ refused 11 0 → admitted toy t' w 1 ≡ t'
    → arrives t (w for 0 ∷ []) 0 b 1 ≡ leaving (placed 63) t' [] (w getting refused 11 0 ∷ [])
unfolding some_in admits pass passes settled arrived
is_dropped t t' b w e₁ e₂ e₃ e₄ = rw (e₁, e₂, e₃, e₄)

-- admission's answers at the table of 64
lacking_at : answer_at (holding 64) (lacking_reference 0) ≡ lacks 0
unfolding opened_arrivals answer_at
lacking_at = refl

after_at : answer_at (holding 64) after_last ≡ refused 11 0
unfolding opened_arrivals answer_at
after_at = refl

after_leaves : next_table (holding 64) after_last ≡ holding 64
unfolding next_table
after_leaves = rw after_at

full_table : arrives (holding 64) [] 0 (lacking_reference 0) 1 ≡ leaving (lacks 0) (holding 64) (lacking_reference 0 for 0 ∷ []) []
full_table = waits_alone (holding 64) (lacking_reference 0) (answer_is (holding 64) (lacking_reference 0) full_formed ∙ lacking_at)

dropped_by_11 :
    arrives (holding 63) (after_last for 0 ∷ []) 0 (numbered 63) 1
    ≡ leaving (placed 63) (holding 64) [] (after_last getting refused 11 0 ∷ [])
dropped_by_11 = is_dropped (holding 63) (holding 64) (numbered 63) after_last last_placed last_leaves
    (answer_is (holding 64) after_last full_formed ∙ after_at) (table_is (holding 64) after_last full_formed ∙ after_leaves)

-- ---- the cases

pub order : ArrivalOrderCases
unfolding opened_arrivals
order =
    record {
      twenty_one_first = refl;
      campaign_before_room = (refl, refl);
      room_before_shelf = (refl, refl);
      shelf_before_block = (refl, refl);
      table_before_block = refl;
      enough_room = refl;
      more_room = refl;
    }

pub missing : MissingCases
unfolding opened_arrivals
missing =
    record {
      waits_behind = refl;
      waits_in_bytes = refl;
      slot_twice = refl;
      waits_already = refl;
      waits_already_in_bytes = refl;
      waits_for_another = refl;
      no_eleventh = refl;
      none_free = refl;
      lacked_by_another = refl;
      below_two = refl;
      rule_in_bytes = (refl, refl);
      same_before_no_place = refl;
      verdict_before = refl;
      verdict_before_same = refl;
      held_before = refl;
      full_table = full_table;
    }

pub passing : PassCases
unfolding opened_arrivals
passing =
    record {
      one_let_in = refl;
      chain_in_order = refl;
      chain_reversed = refl;
      oldest_first = refl;
      one_more_pass = refl;
      only_drops = refl;
      nothing_ends = refl;
      mixed_passes = refl;
      dropped_by8 = refl;
      dropped_by10 = refl;
      dropped_by11 = dropped_by_11;
      dropped_by4 = refl;
      other_campaigns = refl;
      after_refusal = refl;
      after_missing = refl;
      after_another = refl;
      passes_in_bytes = refl;
      refused_in_bytes = refl;
    }

pub outcomes : OutcomeCases
unfolding opened_arrivals
outcomes = record { outcomes_listed = refl; number_alone = refl; ten_outcomes = refl; outcomes_in_buffer = refl }

pub left : ArrivalLeftCases
unfolding opened_arrivals
left = record { still_lacking = refl; free_by_letting_in = (refl, refl); free_by_dropping = (refl, refl) }
