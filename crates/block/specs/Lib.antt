-- Document 01, "The block". Limits, Layout, Reading, Promises and Codec are what a reader must believe; nothing in Steps need be believed.
pub mod Limits
pub mod Layout
pub mod Reading
pub mod Promises
pub mod Codec
pub mod Steps
