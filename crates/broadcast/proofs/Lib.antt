-- The laws of one slot's process. Other crates' proofs cite them.

-- every step puts a number into an empty entry or notes one: what those keep, all steps keep
pub mod Steps
-- of several messages of one kind from one sender only the first has an effect
pub mod FirstMessage
-- what was sent, heard or delivered stays, and each is made at most once
pub mod Monotonicity
-- how many sites support a number
pub mod Support
-- two ECHO quorums meet in a site that has not forked
pub mod Quorum
-- where each number of a record comes from
pub mod OriginInvariant
-- what was heard from enough sites has been acted on
pub mod ThresholdInvariant
-- a message that is received is heard
pub mod Hearing
-- one message and one request change what document 01's sentences say
pub mod Promises
