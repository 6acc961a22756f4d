-- Drawing from lent bytes: what each call draws, and what it tells.
pub mod Making
pub mod Telling
