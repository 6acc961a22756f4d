-- The card's own check.
pub mod Own
