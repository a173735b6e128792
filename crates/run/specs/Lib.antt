-- Calls, a site's run and its ledger. Ledger, Run, Promises and Encoding are what a reader must believe; nothing in Steps need be believed.
pub mod Ledger
pub mod Run
pub mod Promises
pub mod Encoding
pub mod Steps
