-- What a call tells its caller, and the names of document 01's numbers.
pub mod Number
pub mod Buffer
pub mod Told
