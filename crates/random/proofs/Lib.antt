-- The laws of drawing, that it is fair, and examples.
pub mod Drawings
pub mod Fair
pub mod Sequences
pub mod Examples
