-- Site and ledger side by side, from one call to every list of calls; then what calls reach; then what `replay` needs.

-- two views that agree on what is held give one answer
pub mod SameAnswers
-- fed the same calls, a table and its ledger show and answer the same
pub mod Simulation
-- the history of a block that a table admits
pub mod NewHistory
-- the invariant: each place has a history, and each marked place's part is its meaning
pub mod PlaceHistories
-- an admission keeps the invariant
pub mod AdmissionStep
-- an interpretation keeps the invariant
pub mod InterpretationStep
-- a retiring keeps the invariant
pub mod RetiringStep
-- a taking back keeps the invariant
pub mod TakingBackStep
-- every list of calls keeps it
pub mod Runs
-- what a ledger keeps while calls follow
pub mod Growth
-- the places of a table and the blocks of its ledger
pub mod LedgerPlaces
-- a site keeps its promises
pub mod Promises
-- what every site has that calls reached and that has retired nothing
pub mod SiteInvariant
-- every table that has this is reached by calls
pub mod Reachability
-- the call at the front of an encoded list
mod FrontCall
-- that call, by the parts that the code splits it into
mod FrontParts
-- what holds at each turn of a replay
mod ReplayInvariant
