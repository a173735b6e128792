-- A run of all campaigns, seen by one of them.

-- an arrival, seen by its campaign alone
pub mod OwnArrival
-- one call
pub mod Steps
-- every list of calls
pub mod Runs
-- an arrival that is taken back
pub mod Undoing
-- the promises, with SHA-256
pub mod Promises
