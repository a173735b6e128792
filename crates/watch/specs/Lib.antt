-- Document 01, "Watch for forks". Forks, Ancestors and Promises are what a reader must believe; nothing in Steps need be believed.
pub mod Forks
pub mod Ancestors
pub mod Promises
pub mod Steps
