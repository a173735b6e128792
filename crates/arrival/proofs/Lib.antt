-- The promise of arrival, from the ground up, and then how a site comes to meet its premises.

-- the chain of a block: the blocks of its own site below it
pub mod Chains
-- a slot whose owner has not forked has one number
pub mod Numbers
-- a full site hears what an unforked site made below it
pub mod Hearing
-- ECHO in each first block, READY in each second, and delivery in the last
pub mod Delivery
-- the promise of arrival for every list of calls
pub mod Theorem
-- a list of blocks that keep to the building rule: their site is full
pub mod Builders
-- a block that building wrote keeps to that rule
pub mod Picking
-- a site that builds by the rule is full, after every list of calls
pub mod Building
