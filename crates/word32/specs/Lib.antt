-- Operations on words of 32 bits as FIPS 180-4 defines them.
pub mod Operations
