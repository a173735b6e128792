-- The laws of retiring. Other crates' proofs cite those that are public.

-- counts of what stands one place lower
pub mod LowerCounts
-- what a retiring leaves: the other places one place lower, a table in form; a refusal changes nothing
pub mod Effect
-- each refusal comes under its cause and under no other
pub mod Causes
-- retiring keeps its promises
pub mod Promises
-- the ways out of the call
mod Ways
