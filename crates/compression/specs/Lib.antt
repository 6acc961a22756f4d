-- The compression of SHA-256 as FIPS 180-4 defines it: constants, one block.
pub mod Constants
pub mod Block
