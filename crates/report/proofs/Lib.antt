-- The laws of the listing: its text; one arrival; a run on a whole input; an input that comes in parts; what its lines show.

-- the decimal digits of a number
pub mod Decimal
-- a line's text says its seven fields
pub mod LineFields
-- a text made of lines is split into those lines
pub mod Splitting
-- the lines that a listing is made of
pub mod ListingLines
-- text put right behind text
pub mod Appending
-- one arrival, by what its two calls answer and leave
pub mod ArrivalStep
-- whether the empty table of an input's setup is made
pub mod Setups
-- the ways out of a step
pub mod Ways
-- an input is its first arrival and those behind it
pub mod Frames
-- what a run writes with any number of turns that is enough
pub mod EnoughTurns
-- what a run writes from the verdict and block of an arrival
pub mod VerdictAndBlock
-- a run that skips bytes
pub mod Skipping
-- from an arrival's length on, a run writes the lines of the arrivals that are left
pub mod ArrivalLines
-- when a step is due
pub mod DueStep
-- when a listing ends
pub mod ListingEnd
-- gathering ends once no step is due
pub mod Termination
-- one step of gathering
pub mod GatheringStep
-- what is gathered are the lines of the steps in their order
pub mod GatheredLines
-- the lines of an input that comes in parts
pub mod InputParts
-- the steps keep their promises
pub mod Promises
-- the calls of one arrival
pub mod Calls
-- at a listing's site every place is interpreted, and no interpretation refused
pub mod InterpretationInvariant
-- what a ledger has delivered stays delivered
pub mod DeliveryPermanence
-- what a line shows delivered is delivered in the ledger
pub mod Deliveries
-- the text of a listing is its lines
pub mod ListingText
