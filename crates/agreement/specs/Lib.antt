-- The theorem of two sites, what it says of two listings, and the watch told by the ledger. All three files are what a reader must believe.
pub mod TwoSites
pub mod TwoListings
pub mod Watch
