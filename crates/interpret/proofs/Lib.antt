-- The laws of interpretation. Other crates' proofs cite those that are public.

-- rising lists of numbers without repeats
pub mod RisingLists
-- which block made each message
pub mod Messages
-- a slot's record depends on the set of the blocks referred to, not on their order
pub mod Order
-- of a kind's numbers from a sender only the lowest has an effect
pub mod Lowest
-- what a block's record takes over from its parent's, and what it adds
pub mod Records
-- one turn of each loop
mod Turns
-- the list of the places that a place refers to
mod Places
-- the checks 2, 12 and 13, which retiring has too
pub mod FirstChecks
-- each refusal comes under its cause and under no other
pub mod Causes
-- what an interpretation leaves: the mark, a table in form, a buffer of the same length
pub mod Effect
-- what is written is the same in another table with other places
pub mod Relocation
-- the ways out of the call
mod Ways
-- interpretation keeps its promises
pub mod Promises
