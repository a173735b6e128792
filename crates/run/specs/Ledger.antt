-- Document 01, "Interpreting a place": "A site's ledger is fed the setup, the buffer's length and the calls alone". It makes the checks of the calls
-- over a view of its own places and marks, which is computed from the bytes of its blocks.
use Rattle.std.specs.Prelude.{cond, ◌&&◌, List, [], ◌∷◌, ℕ, suc, ◌-◌, eqb, ltb, drop}
use Rattle.base.specs.Bytes.{Bytes}
use Rattle.answer.specs.declared.Answer.{Answer}
use Rattle.answer.specs.Checks.{answer_to}
use Rattle.setup.specs.Setup.{Setup}
use Rattle.block.specs.Layout.{site_of, sequence_of, request_for}
use Rattle.table.specs.View.{View}
use Rattle.table.specs.Rules.{held_in_form}
use Rattle.admission.specs.Admission.{lists, admission_checks}
use Rattle.take_back.specs.TakingBack.{taking_back_checks}
use Rattle.interpret.specs.Interpretation.{interpretation_checks}
use Rattle.retire.specs.Retiring.{retiring_checks}

-- "bytes and verdict of an admission, place of an interpretation"; a retiring and a taking back have nothing to tell
pub data Call : Type 0 where
  admit : Bytes → ℕ → Call
  interpret : ℕ → Call
  retire : Call
  take_back : Call

pub record Ledger : Type 0 where
  -- the blocks that count, the newest first: "a block counts only if some admission of it .. was not taken back"
  pub blocks : List Bytes
  -- the blocks that were retired and have no place, the last retired first; each was marked when it was retired, and keeps its mark
  pub retired : List Bytes
  -- how many places there are, and for each place the bytes of its block and its mark: 1 if it is interpreted, 0 if not
  pub held : ℕ
  pub block : ℕ → Bytes
  pub mark : ℕ → ℕ

-- "It starts empty"
abbrev pub empty : Ledger
empty = record { blocks = []; retired = []; held = 0; block = λ i. []; mark = λ i. 0 }

-- the ledger after a call that passes its checks: an admission "puts the block's bytes at the next place", an interpretation "marks the block at the
-- place named"
unfoldable pub taken : Ledger → Call → Ledger
taken l (admit b verdict) =
    record {
      blocks = b ∷ l.blocks;
      retired = l.retired;
      held = suc l.held;
      block = λ i. cond (eqb i l.held) b (l.block i);
      mark = λ i. cond (eqb i l.held) 0 (l.mark i);
    }
taken l (interpret place) =
    record { blocks = l.blocks; retired = l.retired; held = l.held; block = l.block; mark = λ i. cond (eqb i place) 1 (l.mark i) }
-- "the ledger then keeps the block and its mark, without a place, and moves the other places down"
taken l retire =
    record {
      blocks = l.blocks;
      retired = l.block 0 ∷ l.retired;
      held = l.held - 1;
      block = λ i. l.block (suc i);
      mark = λ i. l.mark (suc i);
    }
-- "the ledger then loses that last place": the block at the last place is the first of `blocks`
taken l take_back = record { blocks = drop 1 l.blocks; retired = l.retired; held = l.held - 1; block = l.block; mark = l.mark }

-- 1 if something was retired, 0 if not, as a table keeps it
abbrev pub retired_mark : List Bytes → ℕ
retired_mark [] = 0
retired_mark (b ∷ bs) = 1

module _ (digest : Bytes → Bytes) where
  -- what the ledger shows of each place, from the bytes of its blocks: a place refers to the lower places whose digests are among its block's
  -- references. A block that is admitted again after it was retired stands above the blocks that referred to it, so their places do not refer to its
  -- place
  abbrev pub view_in : Ledger → View
  view_in l =
      record {
        retired = retired_mark l.retired;
        held = l.held;
        row = λ i. record {
          digest = digest (l.block i);
          site = site_of (l.block i);
          sequence = sequence_of (l.block i);
          refers_to = λ j. ltb j i && lists (l.block i) (digest (l.block j));
          request = request_for (l.block i);
          mark = l.mark i;
        };
      }

  module _ (s : Setup) (size : ℕ) where
    -- "the checks are made on its own places and marks"
    unfoldable pub ledger_answer : Ledger → Call → Answer
    ledger_answer l (admit b verdict) = answer_to (admission_checks digest (held_in_form s (view_in l)) s (view_in l) b verdict) l.held
    ledger_answer l (interpret place) = answer_to (interpretation_checks (held_in_form s (view_in l)) (view_in l) size place) 0
    ledger_answer l retire = answer_to (retiring_checks (held_in_form s (view_in l)) (view_in l) size) 0
    ledger_answer l take_back = answer_to (taking_back_checks (held_in_form s (view_in l)) (view_in l)) 0

    -- "a refused call changes nothing"
    unfoldable pub ledger_step : Ledger → Call → Ledger
    ledger_step l c = cond (eqb (ledger_answer l c).refusal 0) (taken l c) l

    -- the ledger that a list of calls leaves, and the answer of each call
    unfoldable pub ledger_after : Ledger → List Call → Ledger
    ledger_after l [] = l
    ledger_after l (c ∷ cs) = ledger_after (ledger_step l c) cs

    unfoldable pub ledger_answers : Ledger → List Call → List Answer
    ledger_answers l [] = []
    ledger_answers l (c ∷ cs) = ledger_answer l c ∷ ledger_answers (ledger_step l c) cs
