-- Frames: what a reader tells.
pub mod Reading
