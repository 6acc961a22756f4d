-- Key making.
pub mod Key
