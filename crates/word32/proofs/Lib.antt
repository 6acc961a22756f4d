-- Laws of the operations.
pub mod Choice
