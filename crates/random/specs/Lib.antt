-- Drawing from lent bytes: a value, a permutation, and drawings one after the other.
pub mod Drawings
pub mod Sequences
