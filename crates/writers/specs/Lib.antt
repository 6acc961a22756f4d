-- Writers: what they tell and write, and the values of a body.
pub mod Values
pub mod Writing
