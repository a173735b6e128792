-- `delivery_lines` meets its contract: each turn puts the line of one slot behind those of the lower ones. Assumes nothing.
use mathlib.Core.Path.{◌≡◌}
use mathlib.Core.List.{List}
use Prim.Native.Nat.{ℕ, ◌*◌, ◌≤◌}
use lib.ListN.{length}
use Rattle.base.specs.Bytes.{Bytes, concat}
use Rattle.base.specs.List.{list_below}
use Rattle.report.specs.Text.{delivery_text}
use Rattle.report.specs.Listing.{delivery}
use Rattle.report.specs.Framing.{line_size}
use Rattle.report.proofs.arrival.delivery_lines.Given as goal

-- the text of a slot, and that of the slots below k
abbrev pub slot_text : List ℕ → ℕ → ℕ → ℕ → ℕ → ℕ → Bytes
slot_text records arrival place site sequence slot = delivery_text (delivery records arrival place site sequence slot)

abbrev pub lower_text : List ℕ → ℕ → ℕ → ℕ → ℕ → ℕ → Bytes
lower_text records arrival place site sequence k = concat (list_below (slot_text records arrival place site sequence) k)

abbrev pub invariant-loop-slot : goal.invariant-loop-slot
invariant-loop-slot l = (l.lines ≡ lower_text l.records l.arrival l.place l.site l.sequence l.slot) × (length l.lines ≤ line_size * l.slot)
