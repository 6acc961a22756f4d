-- What the card asks of its record and of what it is lent, in document 01's order.
pub mod Stages
pub mod Keys
pub mod Lent
pub mod Asking
pub mod Parts
