-- Laws for the code of a round.
pub mod Rooms
