-- Document 01, "Listing program and C host": the listing. All files but Steps are what a reader must believe.
pub mod Text
pub mod Arrivals
pub mod Listing
pub mod Framing
pub mod Gathering
pub mod Promises
pub mod ListingCalls
pub mod Lines
pub mod Steps
