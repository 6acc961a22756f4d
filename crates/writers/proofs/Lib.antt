-- The laws of writers, one spelling, and examples.
pub mod Writing
pub mod Spelling
pub mod Outcomes
pub mod Examples
