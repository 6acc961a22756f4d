-- The laws of answers in C and of the card's steps.
pub mod Answering
pub mod Holding
pub mod ForC
