-- The laws of the stand-in's call, and examples.
pub mod Orders
pub mod Facts
pub mod Outcomes
pub mod Examples
