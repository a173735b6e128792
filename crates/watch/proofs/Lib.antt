-- The laws of the watch. Other crates' proofs cite those that are public.

-- the test whether a site forked says that two of its blocks share a sequence number
pub mod ForkTest
-- the mask of all 64 bits looks at every place
pub mod FullMask
-- one pass finds the forked sites
mod ForkPass
-- the test whether a place is an ancestor says what the relation says
pub mod AncestorTest
-- one pass down finds all ancestors
pub mod AncestorPass
-- what form shows of a table, as the watch needs it
pub mod InForm
-- each refusal comes under its cause and under no other
pub mod Causes
-- the mask and the count that `forks` answers
pub mod ForkedMask
-- the mask and the count that `ancestors` answers
pub mod AncestorMask
-- the watch keeps its promises
pub mod Promises
