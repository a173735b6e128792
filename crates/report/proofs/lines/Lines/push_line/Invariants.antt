-- `push_line` meets its contract: each turn puts one field behind those before it. Assumes nothing.
use mathlib.Core.Path.{◌≡◌}
use mathlib.Core.List.{List, [], ◌∷◌, ◌++◌}
use Prim.Native.Nat.{ℕ, ◌+◌, ◌*◌, ◌≤◌}
use lib.ListN.{length, get_or}
use Rattle.std.specs.Prelude.{Some}
use Rattle.base.specs.Bytes.{Bytes, concat}
use Rattle.base.specs.List.{list_below}
use Rattle.report.specs.Text.{Field, field_text, ending}
use Rattle.report.specs.Framing.{field_size}
use Rattle.report.proofs.lines.Lines.push_line.Given as goal

-- field i with its ending, and the first k of them
abbrev pub field_in : List Field → ℕ → Bytes
field_in fields i = field_text (get_or fields i (Some 0)) ++ (ending i ∷ [])

abbrev pub first_fields : List Field → ℕ → Bytes
first_fields fields k = concat (list_below (field_in fields) k)

abbrev pub invariant-loop-i : goal.invariant-loop-i
invariant-loop-i l = (l.self ≡ l.initial.self ++ first_fields l.fields l.i) × (length l.self ≤ length l.initial.self + field_size * l.i)
