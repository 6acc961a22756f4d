-- Laws of SHA-256, of a stream and of the hash call, and examples.
pub mod Examples
pub mod Padding
pub mod Digest
pub mod Laid
pub mod Absorbing
pub mod Call
