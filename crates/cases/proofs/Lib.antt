-- The cases hold.

-- the toy digest has the length of a digest
pub mod Toy
-- a run is computed by its ledger, without table and buffer: how most cases are shown
pub mod LedgerRun
-- all that computing a case unfolds, under four names
pub mod Computing
-- reading at a block's limits
pub mod Reading
-- the bytes of a table
pub mod TableBytes
-- tables in form and out of it
pub mod Form
-- the full table
pub mod Full
-- the checks of admission
pub mod Admission
-- the checks of interpretation
pub mod Interpretation
-- forks and ancestors
pub mod Watch
-- what sites build, and the checks of building
pub mod Building
-- document 01's starred cases
pub mod Starred
-- exactly at each threshold, and one below
pub mod Thresholds
-- what an interpretation must not do
pub mod Traps
-- single messages
pub mod Messages
-- one slot's process
pub mod Process
-- the numbers of records in the buffer
pub mod Records
-- the premises of the theorem of two sites can be met
pub mod Premises
-- the premises of the promise of arrival, as tests that compute
mod ArrivalPremises
-- the promise of arrival on five runs
pub mod Arrival
-- sites that build by the rule, and one that is not full
pub mod Builders
-- the shelf's form and its rules
pub mod Shelf
-- arrivals at a shelf
pub mod Arrivals
-- two tables and their records joined
pub mod Joins
-- retired blocks
pub mod Retiring
-- blocks taken back
pub mod TakingBack
-- what calls a list of bytes is
pub mod Encoding
-- the listing's bytes and text
pub mod Listing
