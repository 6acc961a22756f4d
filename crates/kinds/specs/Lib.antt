-- The table of kinds.
pub mod Kinds
