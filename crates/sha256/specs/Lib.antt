-- SHA-256 as FIPS 180-4 defines it, a stream's tie to the message that it has absorbed, and what the hash call promises.
pub mod Standard
pub mod Absorbed
pub mod Call
