-- Request Twelve: the last place is taken back. Both files are what a reader must believe.
pub mod TakingBack
pub mod Promises
