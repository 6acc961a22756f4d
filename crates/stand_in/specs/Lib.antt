-- The stand-in's call.
pub mod Standing
