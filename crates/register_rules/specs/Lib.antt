-- The verdict, and what the code's sign-on stands for.
pub mod Verdict
pub mod Parts
