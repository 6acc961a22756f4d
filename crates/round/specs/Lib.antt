-- What the structs of the code stand for.
pub mod Parts
