pub mod Rows
pub mod Sweep
pub mod Bounded
pub mod Kept
