-- The matrix [A' | I], the fault of a key, and a vector completed to a solution. The modulus p is a parameter throughout.
pub mod Matrices
pub mod Solving
