-- The laws of the matrix, and examples.
pub mod Matrices
pub mod Solving
pub mod Examples
