-- Document 01, "What is turned down". Checks, Refusals, Promises and Buffer are what a reader must believe.
pub mod Checks
pub mod Refusals
pub mod Promises
pub mod Buffer
