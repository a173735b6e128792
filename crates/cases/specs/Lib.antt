-- Cases of document 01's rules, of the rules of requests One, Three, Eight, Eleven and Twelve, and of bytes written out: how a case is written down,
-- how it is run, and what each case gives. A reader need not believe them: they are computed from the definitions.
pub mod Toy
pub mod Run
pub mod Blocks
pub mod Reading
pub mod TableBytes
pub mod Form
pub mod Admission
pub mod Interpretation
pub mod Watch
pub mod Building
pub mod Starred
pub mod Thresholds
pub mod Traps
pub mod Messages
pub mod Process
pub mod Records
pub mod Premises
pub mod Arrival
pub mod Builders
pub mod Shelf
pub mod Arrivals
pub mod Joins
pub mod Retiring
pub mod TakingBack
pub mod Encoding
pub mod Listing
