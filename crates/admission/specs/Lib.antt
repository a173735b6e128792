-- Document 01, the admission of a block. Admission and Promises are what a reader must believe; nothing in Steps need be believed.
pub mod Admission
pub mod Promises
pub mod Steps
