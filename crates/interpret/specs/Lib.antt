-- Document 01, "Interpreting a place". Slot, Interpretation and Promises are what a reader must believe; nothing in Steps need be believed.
pub mod Slot
pub mod Interpretation
pub mod Promises
pub mod Steps
