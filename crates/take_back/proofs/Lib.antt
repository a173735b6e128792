-- The laws of taking back. Other crates' proofs cite those that are public.

-- what a taking back leaves: the other places as they were, a table in form; a refusal changes nothing
pub mod Effect
-- each refusal comes under its cause and under no other
pub mod Causes
-- taking back after admissions leaves the table before them, all bytes
pub mod Undoing
-- taking back keeps its promises
pub mod Promises
-- the ways out of the call
mod Ways
