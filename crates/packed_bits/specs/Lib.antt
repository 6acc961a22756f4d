-- Packed bits, and unused ones cleared.
pub mod PackedBits
pub mod Clearing
