pub mod Atoms
pub mod Bounds
pub mod Brackets
pub mod Classes
pub mod Law
pub mod Lexing
pub mod Trials
