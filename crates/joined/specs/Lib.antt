-- Request Eight: what joining promises of two sites that calls reached. A reader must believe it.
pub mod Promises
