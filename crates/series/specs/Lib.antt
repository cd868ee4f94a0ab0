pub mod Answers
pub mod Performed
