-- What is asked of the choices of a card.
pub mod Choosing
