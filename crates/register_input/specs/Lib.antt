-- How the verdict program's input is cut.
pub mod Cutting
