-- The laws of the grades.
pub mod Grades
