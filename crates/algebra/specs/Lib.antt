-- Lists, residues and vectors, permutations. A modulus p is a parameter throughout.
pub mod Lists
pub mod Residues
pub mod Permutations
