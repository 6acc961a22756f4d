-- The laws of choices, of the opening of a named round and of what readers tell, and examples.
pub mod OpeningLaws
pub mod Passing
pub mod Chosen
pub mod Outcomes
pub mod Examples
