-- Request Three: arrivals for up to four campaigns that share a shelf. Passes, Arriving and Promises are what a reader must believe; nothing in
-- Steps need be believed.
pub mod Passes
pub mod Arriving
pub mod Promises
pub mod Steps
