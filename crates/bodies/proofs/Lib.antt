-- Laws for the loops that check bodies.
pub mod Loops
