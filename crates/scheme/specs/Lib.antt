-- One round of the scheme, the stand-in's round, and the pairing of the two.
pub mod Round
pub mod Pairing
