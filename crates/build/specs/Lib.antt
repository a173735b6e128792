-- Document 01, "Building". Building and Promises are what a reader must believe; nothing in Steps need be believed.
pub mod Building
pub mod Promises
pub mod Steps
