-- The numbers among the arguments of the desk.
pub mod Numbers
