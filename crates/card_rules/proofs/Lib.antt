-- The laws of what the card asks, and examples.
pub mod Facts
pub mod Orders
pub mod Records
pub mod Outcomes
pub mod Examples
