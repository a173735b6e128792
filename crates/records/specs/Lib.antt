-- The record buffer: where each number stands, and parts moved down. Both files are what a reader must believe.
pub mod Layout
pub mod Moving
