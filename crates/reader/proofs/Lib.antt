pub mod Tables
pub mod Counts
pub mod Rows
pub mod Taking
pub mod Atoms
pub mod Understood
