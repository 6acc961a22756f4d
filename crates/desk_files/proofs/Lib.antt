-- Laws of the numbers that arguments are.
pub mod Numbers
