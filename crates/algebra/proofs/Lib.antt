-- The laws of the definitions of `specs/`, and examples.
pub mod Lists
pub mod Sums
pub mod Permutations
pub mod Vectors
pub mod Primes
pub mod Marks
pub mod Examples
