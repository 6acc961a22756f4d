-- What is asked of the rest of a body.
pub mod Bodies
