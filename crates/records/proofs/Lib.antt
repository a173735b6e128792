-- The laws of the record buffer. Other crates' proofs cite them.

-- a record that code holds has an entry for each site
pub mod EntryCounts
-- a record and its forty numbers
pub mod RecordNumbers
-- a place's part and its eight records
pub mod Parts
-- the parts of a buffer one place lower
pub mod Moving
