-- Document 01, "What is turned down", row 1: the empty table of a setup, or all zeros, handed back by value; and the empty table put into a lent
-- buffer.
use Rattle.std.specs.Prelude.{cond, [], ◌∷◌, eqb, length, replicate}
use Rattle.base.specs.Bytes.{Bytes}
use Rattle.answer.specs.declared.Answer.{Answer}
use Rattle.answer.specs.Checks.{check, answer_to}
use Rattle.setup.specs.Setup.{Setup, lawful}
use Rattle.table.specs.View.{View}
use Rattle.table.specs.Layout.{table_size, row_at, layout}
use Rattle.table.specs.declared.FreshTable.{FreshTable}

-- the view of a table in which no block is held and nothing has been retired
abbrev pub nothing : View
nothing = record { retired = 0; held = 0; row = row_at [] }

-- the bytes of the empty table
unfoldable pub empty_table : Setup → Bytes
empty_table s = layout s nothing

-- the empty table of a lawful setup; "the table handed back is all zero" for any other
unfoldable pub fresh_table : Setup → FreshTable
fresh_table s =
    cond (lawful s)
    (record { refusal = 0; table = empty_table s })
    (record { refusal = 1; table = replicate table_size 0 })

-- ---- into a lent buffer

-- 1: setup not lawful; 2: the lent buffer does not have a table's length
unfoldable pub fresh_answer : Setup → Bytes → Answer
fresh_answer s t = answer_to (check 1 (lawful s) 0 ∷ check 2 (eqb (length t) table_size) 0 ∷ []) 0

-- the buffer afterwards: the empty table, or by a refusal the buffer as it was
unfoldable pub fresh_in : Setup → Bytes → Bytes
fresh_in s t = cond (eqb (fresh_answer s t).refusal 0) (empty_table s) t
