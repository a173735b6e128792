-- Request Three: a controller's run of all campaigns. Both files are what a reader must believe.
pub mod Run
pub mod Promises
