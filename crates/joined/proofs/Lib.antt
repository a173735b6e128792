-- What makes a joined site one that calls could have reached.

-- its records: where both sides interpreted a block, their parts are equal
mod Parts
-- it shows as delivered what either side shows
mod Deliveries
-- its rows show the blocks of the two ledgers
mod Blocks
-- it and a further site show one number for a slot
mod Agreement
-- the theorem, with any digest and so with SHA-256
pub mod Promises
