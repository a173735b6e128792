-- A list of calls as bytes, so that one call can run a whole list:
--
--   admission       0, verdict, length of the block (8 bytes, low byte first), the block's bytes
--   interpretation  1, place (8 bytes, low byte first)
--   retiring        2
--   taking back     3
--
-- A call that is cut, or that begins with another byte, ends the list.
use Rattle.std.specs.Prelude.{Bool, true, false, cond, ◌&&◌, ◌||◌, List, [], ◌∷◌, ℕ, zero, suc, ◌+◌, eqb, leb, length, get_or, take, drop}
use Rattle.base.specs.Bytes.{Bytes}
use Rattle.base.specs.LowFirst.{word_size, low_first_at}
use Rattle.run.specs.Ledger.{Call, admit, interpret, retire, take_back}

-- the first byte of an admission, of an interpretation, of a retiring, and of a taking back
abbrev pub admission_byte : ℕ
admission_byte = 0

abbrev pub interpretation_byte : ℕ
interpretation_byte = 1

abbrev pub retiring_byte : ℕ
retiring_byte = 2

abbrev pub taking_back_byte : ℕ
taking_back_byte = 3

-- how many bytes stand before the block of an admission
abbrev pub admission_header : ℕ
admission_header = 2 + word_size

abbrev pub interpretation_size : ℕ
interpretation_size = 1 + word_size

-- how many bytes a retiring or a taking back has: its first byte alone
abbrev pub bare_size : ℕ
bare_size = 1

-- at the front of the bytes stands a whole admission; a whole interpretation; a retiring or a taking back
abbrev pub admission_first : Bytes → Bool
admission_first b = eqb (get_or b 0 0) admission_byte && (leb admission_header (length b) && leb (admission_header + low_first_at b 2) (length b))

abbrev pub interpretation_first : Bytes → Bool
interpretation_first b = eqb (get_or b 0 0) interpretation_byte && leb interpretation_size (length b)

abbrev pub bare_first : Bytes → Bool
bare_first b = (eqb (get_or b 0 0) retiring_byte || eqb (get_or b 0 0) taking_back_byte) && leb bare_size (length b)

-- how many bytes the call at the front takes, 0 if there is none
unfoldable pub first_size : Bytes → ℕ
first_size b = cond (admission_first b) (admission_header + low_first_at b 2) (cond (interpretation_first b) interpretation_size (cond (bare_first b) bare_size 0))

-- the call at the front, where there is one
unfoldable pub first_call : Bytes → Call
first_call b =
    cond (eqb (get_or b 0 0) admission_byte)
    (admit (take (low_first_at b 2) (drop admission_header b)) (get_or b 1 0))
    (cond (eqb (get_or b 0 0) interpretation_byte) (interpret (low_first_at b 1))
    (cond (eqb (get_or b 0 0) retiring_byte) retire take_back))

-- the first k calls, or fewer where the list ends before
unfoldable pub first_calls : ℕ → Bytes → List Call
first_calls zero b = []
first_calls (suc k) b = elim (eqb (first_size b) 0) [ true ↦ [] | false ↦ first_call b ∷ first_calls k (drop (first_size b) b) ]

-- all calls of a list; there are no more than bytes, as each call takes at least one
unfoldable pub calls_in : Bytes → List Call
calls_in b = first_calls (length b) b
