pub mod Commands
pub mod Mistakes
pub mod Openings
pub mod Sources
pub mod Verbs
