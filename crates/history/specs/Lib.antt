-- Document 01, "Interpreting a place": histories of blocks. All three files are what a reader must believe.
pub mod History
pub mod Ancestry
pub mod Forks
