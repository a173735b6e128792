-- The cases of taking back, by computing: what is long is compared by a test, which is fast. Assumes nothing.
use mathlib.Core.Path.{◌≡◌, refl, sym, ap, ap₂, ◌∙◌, subst}
use mathlib.Core.Bool.{Bool, true}
use mathlib.Core.List.{◌++◌}
use native.Mathlib.Omega.{arith}
use lib.ListN.{replicate}
use Rattle.base.specs.List.{some_in}
use Rattle.base.proofs.Bytes.{same_equal}
use Rattle.answer.proofs.Checks.{number_of}
use Rattle.broadcast.specs.declared.SlotRecord.{SlotRecord}
use Rattle.table.specs.Layout.{layout}
use Rattle.table.specs.Fresh.{nothing}
use Rattle.records.specs.Layout.{record_in}
use Rattle.admission.specs.Admission.{row_for}
use Rattle.campaigns.specs.Arriving.{Arrived}
use Rattle.take_back.specs.TakingBack.{taken_back}
use Rattle.take_back.specs.Promises.{UndoneBy}
use Rattle.take_back.proofs.Promises.{promises}
use Rattle.history.specs.Forks.{forked, NoCollision}
use Rattle.run.specs.Ledger.{Ledger}
use Rattle.run.specs.Ledger.Call.{take_back}
use Rattle.run.specs.Promises.{Interpreted}
use Rattle.agreement.proofs.TwoSites.{promised}
use Rattle.cases.specs.Toy.{toy}
use Rattle.cases.specs.Run.{table_after, calls_of, answers_of, ledger_left, site_left, zero_records, echoes}
use Rattle.cases.specs.Blocks.{sites, fresh, numbered, holding}
use Rattle.cases.specs.Form.{with_mark_at, retired_some}
use Rattle.cases.specs.Arrivals.{table_of, chain_block}
use Rattle.cases.specs.Retiring.{after_fork, fork_retired}
use Rattle.cases.specs.TakingBack.{four_marked, TakingBackOrderCases, three, twin_of, twins_held, BeforeCases, LetInCases, taken_back_turns, fork_taken_back, fork_held, again_taken_back, CountedCases, alike, alike_taken_back, alike_unknown, SharedDigestCases}
use Rattle.cases.proofs.Toy.{toy_digest}
use Rattle.cases.proofs.Computing.{opened_ledger, opened_watch}
use Rattle.cases.proofs.LedgerRun.{session, ledger_from, ledger_left_lem, whole, record_told, unretired_told}
use Rattle.cases.proofs.Premises.{lawful_setup_lem, collision, no_collision}
use Rattle.cases.proofs.Full.{last_placed, last_leaves}
use Rattle.cases.proofs.Arrivals.{passing}

-- what taking back is computed by
unfoldable opened_before : Bool
unfolding opened_watch table_of four_marked three twin_of twins_held
opened_before = true

unfoldable opened_turns : Bool
unfolding opened_ledger some_in forked collision after_fork fork_retired taken_back_turns fork_taken_back fork_held again_taken_back alike alike_taken_back alike_unknown
opened_turns = true

pub order : TakingBackOrderCases
unfolding opened_before
order = record { form_before_held = (refl, refl); form_before_interpreted = (refl, refl); held_before_interpreted = (refl, refl); retired_empty = refl }

-- ---- what is left

table_before : taken_back three ≡ layout (sites 4) (record { retired = 0; held = 2; row = λ i. row_for toy nothing (twin_of i) })
unfolding opened_before
table_before = same_equal (taken_back three) (layout (sites 4) (record { retired = 0; held = 2; row = λ i. row_for toy nothing (twin_of i) })) refl

three_undone : taken_back three ≡ twins_held
unfolding opened_before
three_undone = same_equal (taken_back three) twins_held refl

marks_stay : taken_back (with_mark_at (with_mark_at three 0 1) 1 1) ≡ with_mark_at (with_mark_at twins_held 0 1) 1 1
unfolding opened_before
marks_stay = same_equal (taken_back (with_mark_at (with_mark_at three 0 1) 1 1)) (with_mark_at (with_mark_at twins_held 0 1) 1 1) refl

retired_stays : taken_back (retired_some three) ≡ retired_some twins_held
unfolding opened_before
retired_stays = same_equal (taken_back (retired_some three)) (retired_some twins_held) refl

down_to_empty : table_after toy three (replicate 3 take_back) ≡ fresh
unfolding opened_before
down_to_empty = same_equal (table_after toy three (replicate 3 take_back)) fresh refl

four_stays : taken_back four_marked ≡ four_marked
unfolding opened_before
four_stays = promises.refused four_marked (λ e. omega arith)

-- 64 rows are not computed: their last one is the admission of the 64th block
full_undone : taken_back (holding 64) ≡ holding 63
unfolding UndoneBy
full_undone =
    ap taken_back (sym last_leaves) ∙ (promises.undone toy toy_digest.size (holding 63) (numbered 63) 1 (number_of last_placed)).1

pub before_cases : BeforeCases
unfolding opened_before
before_cases =
    record {
      table = table_before;
      undone = three_undone;
      marks_stay = marks_stay;
      retired_stays = retired_stays;
      full_table = full_undone;
      down_to_empty = down_to_empty;
      no_further = refl;
      last_alone = refl;
      another_alone = refl;
      refused_table = four_stays;
      named = refl;
      not_named = refl;
    }

two_left : taken_back (chain_block 3) ≡ chain_block 2
unfolding opened_before chain_block
two_left = same_equal (taken_back (chain_block 3)) (chain_block 2) refl

one_left : taken_back (chain_block 2) ≡ chain_block 1
unfolding opened_before chain_block
one_left = same_equal (taken_back (chain_block 2)) (chain_block 1) refl

none_left : taken_back (chain_block 1) ≡ fresh
unfolding opened_before chain_block
none_left = same_equal (taken_back (chain_block 1)) fresh refl

pub let_in_cases : LetInCases
let_in_cases = record { let_in = ap (λ (r : Arrived). r.table) passing.mixed_passes; one_by_one = (two_left, (one_left, none_left)) }

-- ---- ledgers

fork_taken : ledger_left (sites 4) fork_taken_back ≡ ledger_from fork_taken_back
unfolding opened_turns
fork_taken = ledger_left_lem (sites 4) fork_taken_back lawful_setup_lem refl

fork_elsewhere : forked ((ledger_left (sites 4) fork_taken_back).blocks ++ (ledger_left (sites 4) fork_held).blocks) 0 ≡ true
unfolding opened_turns
fork_elsewhere = ap₂ (λ (l k : Ledger). forked (l.blocks ++ k.blocks) 0) fork_taken (ledger_left_lem (sites 4) fork_held lawful_setup_lem refl)

pub counted_cases : CountedCases
unfolding opened_turns
counted_cases =
    record {
      taken = session (sites 4) taken_back_turns refl refl;
      blocks = ap (λ (l : Ledger). l.blocks) (ledger_left_lem (sites 4) taken_back_turns lawful_setup_lem refl);
      fork_taken = session (sites 4) fork_taken_back refl refl;
      not_forked = ap (λ (l : Ledger). forked l.blocks 0) fork_taken;
      elsewhere_taken = session (sites 4) fork_held refl refl;
      forked_elsewhere = fork_elsewhere;
      again_taken = session (sites 4) again_taken_back refl refl;
      still_forked = ap (λ (l : Ledger). forked l.blocks 0) (ledger_left_lem (sites 4) again_taken_back lawful_setup_lem refl);
    }

-- ---- a shared digest

one_is : ledger_left (sites 4) alike_taken_back ≡ ledger_from alike_taken_back
unfolding opened_turns
one_is = ledger_left_lem (sites 4) alike_taken_back lawful_setup_lem refl

other_is : ledger_left (sites 4) alike_unknown ≡ ledger_from alike_unknown
unfolding opened_turns
other_is = ledger_left_lem (sites 4) alike_unknown lawful_setup_lem refl

no_collisions : NoCollision toy ((ledger_left (sites 4) alike_taken_back).blocks ++ (ledger_left (sites 4) alike_unknown).blocks)
unfolding opened_turns
no_collisions = rw (one_is, other_is) (no_collision ((ledger_from alike_taken_back).blocks ++ (ledger_from alike_unknown).blocks) refl)

-- the block's place in each ledger
one_place : Interpreted (ledger_from alike_taken_back) 2
unfolding opened_turns
one_place = record { below = omega arith; mark = refl }

other_place : Interpreted (ledger_from alike_unknown) 1
unfolding opened_turns
other_place = record { below = omega arith; mark = refl }

same_block_lem : (ledger_from alike_taken_back).block 2 ≡ (ledger_from alike_unknown).block 1
unfolding opened_turns
same_block_lem = refl

echo_is : (record_in (site_left (sites 4) alike_taken_back).records 2 0).made ≡ echoes 42
unfolding opened_turns
echo_is =
    ap (λ (r : SlotRecord). r.made)
    (record_told (sites 4) lawful_setup_lem zero_records (whole 0) (calls_of alike_taken_back) (answers_of alike_taken_back) refl
    (unretired_told (sites 4) lawful_setup_lem zero_records (whole 0) (calls_of alike_taken_back) (answers_of alike_taken_back) refl refl) 2 0 (omega arith) one_place)

pub shared_digest_cases : SharedDigestCases
unfolding opened_turns
shared_digest_cases =
    record {
      taken = session (sites 4) alike_taken_back refl refl;
      other_taken = session (sites 4) alike_unknown refl refl;
      shared = refl;
      different = refl;
      no_collision = no_collisions;
      same_part = (promised toy toy_digest.size (sites 4) lawful_setup_lem zero_records zero_records (calls_of alike_taken_back) (calls_of alike_unknown)).same no_collisions 2 1
          (subst (λ (l : Ledger). Interpreted l 2) (sym one_is) one_place) (subst (λ (l : Ledger). Interpreted l 1) (sym other_is) other_place)
          (ap (λ (l : Ledger). l.block 2) one_is ∙ same_block_lem ∙ ap (λ (l : Ledger). l.block 1) (sym other_is));
      echo = echo_is;
    }
