-- The laws of packed bits, and examples.
pub mod Unused
pub mod PackedBits
pub mod Clearing
pub mod Examples
