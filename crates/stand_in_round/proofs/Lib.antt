-- The bytes of a round, laid one behind the other.
pub mod Laid
