-- The laws of blocks.

-- the entries of the two lists of a block
pub mod Lists
-- check 6 of a single request
pub mod RequestCheck
-- check 3, and what follows from it
pub mod Shape
-- the length and the fields of an encoded content
pub mod Encoding
-- each refusal of the reader comes under its cause and under no other
pub mod Causes
-- what it means that the reader accepts
pub mod Acceptance
-- what counts among the requests from an index on, and that each request of an accepted block counts
pub mod Counting
-- what reading promises beyond its equation
pub mod Promises
-- bytes and fields determine each other
pub mod RoundTrip
