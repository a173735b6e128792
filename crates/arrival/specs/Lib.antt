-- Request Fourteen: the promise of arrival, and how a site comes to be full. All three files are what a reader must believe.
pub mod Full
pub mod Arrival
pub mod Building
