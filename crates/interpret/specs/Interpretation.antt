-- Document 01, "Interpreting a place", and rows 12 to 15 of "What is turned down": what interpretation answers, and what it leaves. The checks are
-- made over a view, so that the ledger of crates/run makes the same checks.
use Rattle.std.specs.Prelude.{Bool, not, cond, List, [], ◌∷◌, ℕ, zero, suc, eqb, ltb, length}
use Rattle.base.specs.Bytes.{Bytes, splice}
use Rattle.answer.specs.declared.Answer.{Answer}
use Rattle.answer.specs.Checks.{Check, check, check_none, answer_to}
use Rattle.setup.specs.Setup.{Setup}
use Rattle.broadcast.specs.declared.SlotRecord.{SlotRecord}
use Rattle.table.specs.View.{Row, interpreted, View}
use Rattle.table.specs.Layout.{setup_of, view_of, with_mark}
use Rattle.table.specs.Rules.{refers_uninterpreted}
use Rattle.table.specs.Form.{in_form}
use Rattle.records.specs.Layout.{buffer_size, part_start, record_in, numbers_of}
use Rattle.interpret.specs.Slot.{Direct, interpret_slot}

-- the block of place j, with its record in a slot, as it stands in the buffer
abbrev pub direct_at : View → List ℕ → ℕ → ℕ → Direct
direct_at v buffer slot j = record { site = (v.row j).site; sequence = (v.row j).sequence; state = record_in buffer j slot }

-- the list with a block before it, if the test passes
unfoldable pub join_if : Bool → Direct → List Direct → List Direct
join_if test d ds = cond test (d ∷ ds) ds

-- the blocks of the places below k that the row r refers to. Their order does not matter: messages are a set, and there is at most one parent
unfoldable pub directs_below : View → List ℕ → ℕ → Row → ℕ → List Direct
directs_below v buffer slot r zero = []
directs_below v buffer slot r (suc j) = join_if (r.refers_to j) (direct_at v buffer slot j) (directs_below v buffer slot r j)

-- the record of place i in a slot, from the records of the lower places that it refers to
unfoldable pub record_for : Setup → View → List ℕ → ℕ → ℕ → SlotRecord
record_for s v buffer i slot =
    interpret_slot s slot (v.row i).site (v.row i).sequence ((v.row i).request slot) (directs_below v buffer slot (v.row i) i)

-- the 320 numbers that interpretation writes for a place
abbrev pub written : Setup → View → List ℕ → ℕ → List ℕ
written s v buffer i = numbers_of (record_for s v buffer i)

-- 2: table not in form; 12: record buffer not of 20,480 numbers; 13: place not below count; 14: already interpreted; 15: a direct
-- reference not interpreted, with the lowest such place
abbrev pub interpretation_checks : Bool → View → ℕ → ℕ → List Check
interpretation_checks formed v size i =
    check 2 formed 0
    ∷ check 12 (eqb size buffer_size) 0
    ∷ check 13 (ltb i v.held) 0
    ∷ check 14 (not (interpreted (v.row i))) 0
    ∷ check_none 15 (refers_uninterpreted v (v.row i)) i
    ∷ []

-- the answer of an interpretation
unfoldable pub interpretation : Bytes → List ℕ → ℕ → Answer
interpretation t buffer i = answer_to (interpretation_checks (in_form t) (view_of t) (length buffer) i) 0

-- the table after an interpretation: "The place is then marked interpreted; the table has no other change". By a refusal it is as it was
unfoldable pub marked : Bytes → List ℕ → ℕ → Bytes
marked t buffer i = cond (eqb (interpretation t buffer i).refusal 0) (with_mark t i) t

-- the record buffer after an interpretation: "only the 320 numbers that belong to that place are written". By a refusal it is as it was
unfoldable pub recorded : Bytes → List ℕ → ℕ → List ℕ
recorded t buffer i =
    cond (eqb (interpretation t buffer i).refusal 0) (splice buffer (part_start i) (written (setup_of t) (view_of t) buffer i)) buffer
