-- `moved_bytes` meets its contract: the row's bytes, then its references halved. Assumes nothing.
use mathlib.Core.Path.{◌≡◌, ap, ◌∙◌}
use native.Mathlib.Omega.{arith}
use Prim.Native.Nat.{ℕ, ◌-◌, ◌+◌, ◌≤◌}
use lib.ListN.{length, take, drop, length-drop}
use lib.Seq.{length-take-le}
use Rattle.base.specs.Bytes.{Bytes}
use Rattle.base.proofs.Parts.{part_size_lem}
use Rattle.base.proofs.Words.{low_first_of_word}
use Rattle.table.specs.Layout.{row_size, row_start}
use Rattle.table.proofs.RowBytes.{row_part}
use Rattle.table.proofs.MoveSteps.{moved_is}
use Rattle.table.proofs.moving.moved_bytes.Goals as goal

lent : (t : Bytes) (i : ℕ) → take ((row_start i + row_size) - row_start i) (drop (row_start i) t) ≡ row_part t i
lent t i = ap (λ (n : ℕ). take n (drop (row_start i) t)) (part_size_lem (row_start i) row_size)

lent_length : (t : Bytes) (i : ℕ) → row_start i + row_size ≤ length t → length (take ((row_start i + row_size) - row_start i) (drop (row_start i) t)) ≡ row_size
lent_length t i h = ap length (lent t i) ∙ length-take-le row_size (drop (row_start i) t) (omega (arith, length-drop (row_start i) t))

pub returns : goal.returns
returns c =
    moved_is c.args.table.now c.args.i c.references_at-references.result c.references_at-references.ensures c.references_at-references.type_inv _ _ _ _
    (lent c.args.table.now c.args.i) (lent_length c.args.table.now c.args.i (omega (arith, c.told-table, c.requires)))
    c.put.ensures (c.to_le_bytes.ensures ∙ low_first_of_word _) c.put-2.ensures
