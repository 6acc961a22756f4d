-- The laws of key making, the theorem of a key that is drawn, and an example.
pub mod Making
pub mod Theorems
pub mod Examples
