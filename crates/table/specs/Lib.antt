-- Document 01, "The table", and what requests Eleven and Twelve write into it. Nothing in Steps need be believed.
pub mod View
pub mod Layout
pub mod Writing
pub mod Rules
pub mod Form
pub mod Fresh
pub mod Promises
pub mod Steps
