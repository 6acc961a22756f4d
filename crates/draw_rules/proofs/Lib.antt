-- The laws of what is drawn and told, and examples.
pub mod Making
pub mod Orders
pub mod Outcomes
pub mod Theorems
pub mod Examples
