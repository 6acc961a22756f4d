-- What the C functions beside the card's answer and write.
pub mod Calls
