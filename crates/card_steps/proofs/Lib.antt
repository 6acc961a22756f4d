-- The laws of the card's steps.
pub mod Parts
pub mod Opening
pub mod Outcomes
pub mod Resting
pub mod ReadBack
pub mod Written
