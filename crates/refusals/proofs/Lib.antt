-- Laws of what a call tells, and examples.
pub mod Chain
pub mod Examples
