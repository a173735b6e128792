-- A table's bytes are those written out: they are long, and compared by a test, which is fast. Assumes nothing.
use mathlib.Core.Path.{◌≡◌, refl}
use mathlib.Core.List.{◌∷◌, ◌++◌}
use lib.ListN.{replicate}
use Rattle.base.proofs.Bytes.{same_equal}
use Rattle.table.specs.Layout.{layout}
use Rattle.cases.specs.TableBytes.{seven_owners, written_row, row_written, TableBytesCases}
use Rattle.cases.proofs.Computing.{opened_table}

table_written : layout seven_owners (record { retired = 1; held = 2; row = written_row })
    ≡ 7 ∷ 6 ∷ 5 ∷ 4 ∷ 3 ∷ 2 ∷ 1 ∷ 0 ∷ 6 ∷ 1 ∷ 2 ∷ (row_written 5 0 ++ (row_written 6 1 ++ replicate 3720 0))
unfolding opened_table
table_written =
    same_equal (layout seven_owners (record { retired = 1; held = 2; row = written_row }))
    (7 ∷ 6 ∷ 5 ∷ 4 ∷ 3 ∷ 2 ∷ 1 ∷ 0 ∷ 6 ∷ 1 ∷ 2 ∷ (row_written 5 0 ++ (row_written 6 1 ++ replicate 3720 0))) refl

pub table_bytes : TableBytesCases
table_bytes = record { table_length = refl; table_written = table_written }
