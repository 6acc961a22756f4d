-- What C is answered, and what the card's C functions answer, keep and write.
pub mod Answers
pub mod Card
