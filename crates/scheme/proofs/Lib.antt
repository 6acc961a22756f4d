-- The laws of a round, the pairing, and examples.
pub mod Laws
pub mod Pairing
pub mod Examples
