-- The theorems of agreement, from the promises of runs.

-- the theorem of two sites
pub mod TwoSites
-- two listings of one setup, by what is shown and by the lines of their texts
pub mod TwoListings
-- what the watch says of a table that calls reached
pub mod Watch
