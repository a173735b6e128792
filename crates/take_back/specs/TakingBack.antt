-- Request Twelve: "Taking back the last place gives the table without it, all fields". The checks are made over a view, so that the ledger of
-- crates/run makes the same checks.
use Rattle.std.specs.Prelude.{Bool, cond, not, List, [], ◌∷◌, ◌-◌, eqb, ltb}
use Rattle.base.specs.Bytes.{Bytes}
use Rattle.answer.specs.declared.Answer.{Answer}
use Rattle.answer.specs.Checks.{Check, check, answer_to}
use Rattle.table.specs.View.{interpreted, View}
use Rattle.table.specs.Layout.{view_of}
use Rattle.table.specs.Writing.{without_row}
use Rattle.table.specs.Form.{in_form}

-- 2: table not in form; 32: "no block held"; 33: "the last place is interpreted"
abbrev pub taking_back_checks : Bool → View → List Check
taking_back_checks formed v =
    check 2 formed 0
    ∷ check 32 (ltb 0 v.held) 0
    ∷ check 33 (not (interpreted (v.row (v.held - 1)))) 0
    ∷ []

-- the answer of a taking back
unfoldable pub taking_back : Bytes → Answer
taking_back t = answer_to (taking_back_checks (in_form t) (view_of t)) 0

-- the table after a taking back: without its last place, or by a refusal as it was
unfoldable pub taken_back : Bytes → Bytes
taken_back t = cond (eqb (taking_back t).refusal 0) (without_row t) t
