-- The laws of the C functions, and examples.
pub mod Holding
pub mod ForC
pub mod Hashing
pub mod Numbers
pub mod Outcomes
pub mod Examples
