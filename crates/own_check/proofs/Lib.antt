-- The laws of the card's own check.
pub mod Own
