mod Split
pub mod Fields
pub mod Fronts
pub mod Kept
pub mod Reading
pub mod Repeats
