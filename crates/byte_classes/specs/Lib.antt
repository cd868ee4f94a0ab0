pub mod Numbering
pub mod Classes
pub mod Tables
pub mod Own
pub mod Bytewise
pub mod First
pub mod NumberingLemmas
