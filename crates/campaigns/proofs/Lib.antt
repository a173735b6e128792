-- The laws of arrivals: of passes and their tries, then of a call, then what the code does.

-- how a fact is shown of a pass, and of all passes
pub mod Inductions
-- the outcomes of tries, which are admissions one after the other
pub mod Tries
-- what passes keep
pub mod PassInvariants
-- the last pass admits none, and what still waits gets 9 from it
pub mod LastPass
-- passes over the whole shelf are passes over what waits for the campaign
pub mod OwnPasses
-- what is said of an arrival that would get 9
pub mod MissingReference
-- the ways out of an arrival, and what each leaves
pub mod Ways
-- each refusal comes under its cause and under no other
pub mod Causes
-- arrivals keep their promises, with any digest and so with SHA-256
pub mod Promises
-- one turn of a pass, and of the passes
mod Turns
-- what holds at each turn, as the loops keep it
mod LoopInvariants
