pub mod Causes
pub mod Words
