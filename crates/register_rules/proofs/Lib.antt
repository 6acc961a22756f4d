-- The laws of the verdict, and its exactness.
pub mod Orders
pub mod Facts
pub mod Outcomes
pub mod Exact
