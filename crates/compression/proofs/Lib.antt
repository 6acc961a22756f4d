-- Laws of the compression.
pub mod Loops
