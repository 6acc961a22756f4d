-- The laws of cutting, and examples of the verdict and of its input.
pub mod Cuts
pub mod Examples
