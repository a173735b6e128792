-- `place_records` meets its contract. The loop's invariant: the records of the slots passed are put one behind the other. Assumes nothing.
use mathlib.Core.Path.{◌≡◌}
use mathlib.Core.List.{List}
use Prim.Native.Nat.{ℕ, ◌*◌}
use lib.ListN.{length, take}
use Rattle.base.specs.List.{list_below}
use Rattle.base.specs.Bytes.{Bytes, concat}
use Rattle.table.specs.Layout.{setup_of, view_of}
use Rattle.records.specs.Layout.{record_size, flatten, part_size}
use Rattle.interpret.specs.Interpretation.{record_for}
use Rattle.interpret.proofs.place_records.Given as goal

-- the numbers of a slot
abbrev pub numbers_in : Bytes → ℕ → List ℕ → ℕ → List ℕ
numbers_in t i buffer slot = flatten (record_for (setup_of t) (view_of t) buffer i slot)

abbrev pub invariant-loop-slot : goal.invariant-loop-slot
invariant-loop-slot l =
    (length l.out ≡ part_size) × (take (record_size * l.slot) l.out ≡ concat (list_below (numbers_in l.table l.place l.records) l.slot))
