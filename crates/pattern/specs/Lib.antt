pub mod Codes
pub mod Names
pub mod One
pub mod Tree
