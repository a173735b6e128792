-- Request Eleven: "Retire place 0 and move every other place and record down by one; the buffer from the new count on stays". The checks are made
-- over a view, so that the ledger of crates/run makes the same checks.
use Rattle.std.specs.Prelude.{Bool, cond, not, ◌&&◌, List, [], ◌∷◌, ℕ, eqb, ltb, length}
use Rattle.base.specs.Search.{any_below}
use Rattle.base.specs.Bytes.{Bytes}
use Rattle.answer.specs.declared.Answer.{Answer}
use Rattle.answer.specs.Checks.{Check, check, answer_to}
use Rattle.table.specs.View.{interpreted, View}
use Rattle.table.specs.Layout.{count_of, view_of}
use Rattle.table.specs.Writing.{move_down}
use Rattle.table.specs.Form.{in_form}
use Rattle.records.specs.Layout.{buffer_size}
use Rattle.records.specs.Moving.{moved_parts}

-- ---- 29: whether place 0 may be retired

-- place i refers to place 0 and is not interpreted
abbrev pub waits_for_first : View → ℕ → Bool
waits_for_first v i = (v.row i).refers_to 0 && not (interpreted (v.row i))

-- place i holds an interpreted block of the site of place 0, of greater sequence number
abbrev pub follows_first : View → ℕ → Bool
follows_first v i = eqb (v.row i).site (v.row 0).site && (interpreted (v.row i) && ltb (v.row 0).sequence (v.row i).sequence)

-- "it is interpreted"
abbrev pub first_interpreted : View → Bool
first_interpreted v = interpreted (v.row 0)

-- "every held block referring to it is interpreted"
abbrev pub referrers_interpreted : View → Bool
referrers_interpreted v = not (any_below (waits_for_first v) v.held)

-- "its site has a held, interpreted block of greater sequence number"
abbrev pub site_goes_on : View → Bool
site_goes_on v = any_below (follows_first v) v.held

-- place 0 may be retired: all three hold
unfoldable pub retirable : View → Bool
retirable v = first_interpreted v && (referrers_interpreted v && site_goes_on v)

-- ---- the call

-- 2: table not in form; 12: record buffer not of 20,480 numbers; 13: place 0 not below count; 29: "place 0 can't be retired"
abbrev pub retiring_checks : Bool → View → ℕ → List Check
retiring_checks formed v size =
    check 2 formed 0
    ∷ check 12 (eqb size buffer_size) 0
    ∷ check 13 (ltb 0 v.held) 0
    ∷ check 29 (retirable v) 0
    ∷ []

-- the answer of a retiring
unfoldable pub retiring : Bytes → List ℕ → Answer
retiring t buffer = answer_to (retiring_checks (in_form t) (view_of t) (length buffer)) 0

-- the table after a retiring: without place 0, or by a refusal as it was
unfoldable pub retired_table : Bytes → List ℕ → Bytes
retired_table t buffer = cond (eqb (retiring t buffer).refusal 0) (move_down t) t

-- the record buffer after a retiring: every part of a later place one place lower, or by a refusal as it was
unfoldable pub retired_records : Bytes → List ℕ → List ℕ
retired_records t buffer = cond (eqb (retiring t buffer).refusal 0) (moved_parts buffer (count_of t)) buffer
