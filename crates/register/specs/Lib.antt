-- The grades.
pub mod Grades
