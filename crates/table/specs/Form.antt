-- Document 01, "The table": when a lent buffer of any content is a table in form.
use Rattle.std.specs.Prelude.{Bool, ◌&&◌, eqb, length, drop}
use Rattle.base.specs.Bytes.{Bytes, all_zero}
use Rattle.table.specs.Layout.{table_size, row_start, setup_of, count_of, view_of}
use Rattle.table.specs.Rules.{held_in_form}

-- the buffer's length is a table's, its setup and rows are in form, and entries from the count on are zero
unfoldable pub in_form : Bytes → Bool
in_form t =
    eqb (length t) table_size
    && (held_in_form (setup_of t) (view_of t)
    && all_zero (drop (row_start (count_of t)) t))
