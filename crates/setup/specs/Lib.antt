-- Document 01, "Setup and digest".
pub mod Setup
