-- Document 01, "One slot's process". Record, Process and Promises are what a reader must believe.
pub mod Record
pub mod Process
pub mod Promises
