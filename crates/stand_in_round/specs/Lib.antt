-- The bytes of the round that the stand-in makes.
pub mod Bytes
