-- N rounds side by side.
pub mod Layout
pub mod Rounds
pub mod Parts
