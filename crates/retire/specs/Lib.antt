-- Request Eleven: place 0 is retired. Retiring and Promises are what a reader must believe; nothing in Steps need be believed.
pub mod Retiring
pub mod Promises
pub mod Steps
