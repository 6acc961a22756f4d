-- What the card's calls tell, keep and write.
pub mod Steps
