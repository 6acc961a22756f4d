-- The laws of frames.
pub mod Orders
pub mod Facts
