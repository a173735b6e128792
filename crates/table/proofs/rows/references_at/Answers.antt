-- `references_at` meets its contract: the eight bytes are those of the mask. Assumes nothing.
use mathlib.Core.Path.{◌≡◌, ap, ◌∙◌}
use Prim.Native.Nat.{ℕ, ◌+◌, ◌-◌, ◌<◌}
use native.Mathlib.Omega.{arith}
use lib.ListN.{length, take, drop, length-drop}
use lib.Seq.{length-take-le}
use Rattle.base.specs.Bytes.{Bytes}
use Rattle.base.specs.LowFirst.{word_size, low_first}
use Rattle.base.proofs.Parts.{part_size_lem}
use Rattle.base.proofs.Words.{word_of_low_first}
use Rattle.table.specs.View.{max_places}
use Rattle.table.specs.Layout.{references_offset, row_start, table_size}
use Rattle.table.proofs.rows.references_at.Goals as goal

-- the part of the table that is read
module _ (t : Bytes) (i : ℕ) (size : length t ≡ table_size) (place : i < max_places) where
  abbrev at : ℕ
  at = row_start i + references_offset

  abbrev part : Bytes
  part = take (at + word_size - at) (drop at t)

  part_is : part ≡ take word_size (drop at t)
  part_is = ap (λ (n : ℕ). take n (drop at t)) (part_size_lem at word_size)

  whole : length part ≡ word_size
  whole = ap length part_is ∙ length-take-le word_size (drop at t) (omega (arith, length-drop at t, size, place))

pub returns : goal.returns
returns c =
    let t = c.args.table.now in
    let m = rw c.unwrap.ensures at c.try_into.ensures.1 in
    c.from_le_bytes.ensures ∙ word_of_low_first c.unwrap.result (ap length m.same ∙ whole t c.args.i c.told-table c.requires)
    ∙ ap low_first (m.same ∙ part_is t c.args.i c.told-table c.requires)
