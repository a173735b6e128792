-- All that proofs use of the setup.

-- the thresholds, and the numbers of sites that they are reached by
pub mod Thresholds
