-- Histories of blocks, from the ground up.

-- induction over a history, and what the blocks directly referred to give
pub mod Histories
-- what holds of every slot's record in every block's meaning
pub mod Meanings
-- where a number in a block's record comes from
pub mod Validity
-- in any collection of histories with at most f forked sites a slot has one number
pub mod Agreement
-- histories of blocks that were admitted in turn
pub mod Admissions
-- where no two blocks share a digest, each has one history, found by digest
pub mod Ancestry
-- when a site has forked
pub mod Forks
-- the histories of two lists of blocks as one collection
pub mod Collections
