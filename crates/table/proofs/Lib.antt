-- The laws of the table. Other crates' proofs cite those that are public.

-- what the rules read of a view, and what a view in form has
pub mod Views
-- what a table in form has
pub mod InForm
-- the group and the print of a place's digest
mod Prints
-- the index of digests by their first bytes
pub mod DigestIndex
-- a row and its 60 bytes
pub mod RowBytes
-- the table after a row was put at its next place
pub mod AddedRow
-- the table after a place was marked
pub mod MarkedPlace
-- tables whose rows stand as the bytes of the rows that they show
pub mod Canonical
-- a table in form is the layout of its contents
pub mod TableLayout
-- what the code's steps make of a row that is written
mod WriteSteps
-- the table without its last row
pub mod ClearedRow
-- the table whose rows moved down by one
pub mod LoweredRows
-- what the code's steps make of rows that move down
mod MoveSteps
-- the empty table of a lawful setup
pub mod Empty
-- when a fresh table is refused
mod Freshness
-- the table keeps its promises
pub mod Promises
