-- The laws of joining: what the checks show; the table, place by place; the records; the promises. Those that are not public serve the code.

-- the place of a digest, and references by digest
pub mod References
-- what a join that passes its checks has shown
pub mod CheckedJoin
-- each refusal comes under its cause and under no other
pub mod Causes
-- the table after each place of the right
pub mod TableInvariant
-- where blocks of one table stand in another, as a list
mod PlaceLists
-- one turn of the loops over a block's references
mod Turns
-- check 24, with references compared as places
mod ClashByPlaces
-- where each block stands after the right's places below k
pub mod PlacesInvariant
-- the parts that joining hands back, and the third buffer
pub mod ThirdBuffer
-- one law for each step of the code that copies parts
mod PartSteps
-- parts copied before the table changes are those of the result
mod CopyOrder
-- the ways out of the checks
mod Ways
-- what `join` asks of its steps, and what they leave together
mod Call
-- the result, told without the order in which it is made
pub mod ResultShape
-- joining keeps its promises
pub mod Promises
