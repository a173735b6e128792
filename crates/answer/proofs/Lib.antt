-- The laws of answers.

-- a list of checks, one step at a time
pub mod Checks
-- which check of a list decided: one law for every list of checks
pub mod Promises
-- answers put into a buffer one behind the other
pub mod Buffer
-- the numbers of refusals
pub mod Refusals
