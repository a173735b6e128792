-- All that computing a case opens, under four names. Assumes nothing.
use mathlib.Core.Bool.{Bool, true}
use lib.Count.{ones, ones_in}
use Rattle.base.specs.Search.{first_below, any_below, all_below}
use Rattle.base.specs.Count.{count_below}
use Rattle.base.specs.Mask.{mask_below}
use Rattle.base.specs.List.{list_below, passing_below}
use Rattle.base.specs.Bytes.{same_bytes, all_zero, parts, concat, splice}
use Rattle.base.specs.LowFirst.{low_first, low_first_bytes}
use Rattle.answer.specs.Checks.{answer_to}
use Rattle.setup.specs.Setup.{lawful_sites, owners_below, lawful, faults, echo_quorum, ready_amplification, ready_quorum}
use Rattle.block.specs.Layout.{counted_request, encode}
use Rattle.block.specs.Reading.{well_shaped, reading}
use Rattle.broadcast.specs.Process.{made_of, support, only_if, ready_on_echoes, ready_on_readies, deliver_on_readies, take_send, take_echo, take_ready, take, receive, receive_all, take_request}
use Rattle.table.specs.Layout.{row_bytes, layout, with_row}
use Rattle.table.specs.Writing.{without_row}
use Rattle.table.specs.Rules.{parents, parent_rule, parent_in_form, row_in_form, held_in_form}
use Rattle.table.specs.Form.{in_form}
use Rattle.table.specs.Fresh.{empty_table}
use Rattle.admission.specs.Admission.{admission, admitted}
use Rattle.take_back.specs.TakingBack.{taking_back, taken_back}
use Rattle.interpret.specs.Slot.{parent_state, insert, insert_if, numbers, messages_of, messages, interpret_slot}
use Rattle.interpret.specs.Interpretation.{interpretation}
use Rattle.retire.specs.Retiring.{retirable, retiring}
use Rattle.watch.specs.Forks.{forked_in, forks}
use Rattle.watch.specs.Ancestors.{reached, ancestors}
use Rattle.build.specs.Building.{greatest_below, next_sequence, picked, next_content, well_listed, building_from, built_from}
use Rattle.history.specs.History.{slot_record, directs}
use Rattle.history.specs.Ancestry.{found, gather, find, history_of}
use Rattle.run.specs.Ledger.{taken}
use Rattle.run.specs.Run.{site_answer, site_step, site_after, site_answers}
use Rattle.cases.specs.Toy.{seen, toy, block}
use Rattle.cases.specs.Run.{table_after, answers, arriving}
use Rattle.cases.specs.Blocks.{fresh, unlawful, first, fork, second, both, stranger, third, fourth, later, echoing, readying, delivering, numbered, fully_referring, four, holding}
use Rattle.cases.specs.Starred.{chained, two_echoes, two_readies, third_ready, thirteen}
use Rattle.cases.specs.Thresholds.{one_ready, one_more_ready, three_readies, four_of_five_echoes, two_readies_of_five, third_ready_of_five, own_ready, five_readies}
use Rattle.cases.specs.Traps.{echoing_twin, readying_twin, other_echoing, other_readying, twin_echoes, one_sender, same_sender, idle, after_idle, beside_idle, both_reversed, mixed_echoes, readying_three, two_slots}
use Rattle.cases.specs.Premises.{fork_echoing, turning, after_turning, first_turns, second_turns}
use Rattle.cases.specs.Arrival.{branch, echoing_beside, readying_beside, delivering_beside, quiet, asking_block, echoing_after, readying_after, asking_again, newcomer}
use Rattle.cases.proofs.LedgerRun.{claimed, answer_in_form, told, ledger_from, all_marked, made_by}

-- `unfolding opened_blocks` opens what this line names: the blocks of the cases
unfoldable pub opened_blocks : Bool
unfolding concat encode seen toy block first fork second both stranger third fourth later echoing readying delivering numbered fully_referring chained two_echoes
    two_readies third_ready one_ready one_more_ready three_readies four_of_five_echoes two_readies_of_five third_ready_of_five own_ready five_readies echoing_twin
    readying_twin other_echoing other_readying twin_echoes one_sender same_sender idle after_idle beside_idle both_reversed mixed_echoes readying_three
    two_slots fork_echoing turning after_turning branch echoing_beside readying_beside delivering_beside quiet asking_block echoing_after readying_after
    asking_again newcomer
opened_blocks = true

-- what a ledger's answers and its blocks' meanings are computed by
unfoldable pub opened_ledger : Bool
unfolding opened_blocks first_below any_below all_below count_below mask_below list_below same_bytes parts counted_request well_shaped reading lawful_sites
    owners_below lawful faults echo_quorum ready_amplification ready_quorum ones ones_in made_of support only_if ready_on_echoes ready_on_readies
    deliver_on_readies take_send take_echo take_ready take receive receive_all take_request parents parent_rule retirable answer_to parent_state insert insert_if numbers
    messages_of messages interpret_slot taken slot_record directs found gather find history_of fresh arriving claimed answer_in_form told ledger_from
    all_marked made_by first_turns second_turns thirteen
opened_ledger = true

-- what a table's answers are computed by
unfoldable pub opened_table : Bool
unfolding opened_blocks first_below any_below all_below count_below mask_below list_below same_bytes all_zero parts splice low_first low_first_bytes counted_request
    well_shaped reading lawful_sites owners_below lawful row_bytes layout with_row parents parent_rule parent_in_form row_in_form held_in_form in_form empty_table answer_to
    admission admitted interpretation retirable retiring without_row taking_back taken_back site_answer site_step site_after site_answers table_after answers fresh unlawful four holding
opened_table = true

-- what the watch and building answer to a table is computed by
unfoldable pub opened_watch : Bool
unfolding opened_table faults ones ones_in passing_below forked_in forks reached ancestors greatest_below next_sequence picked next_content well_listed building_from
    built_from
opened_watch = true
