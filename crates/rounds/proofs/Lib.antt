-- The laws of N rounds, and examples.
pub mod Runs
pub mod Cuts
pub mod Examples
