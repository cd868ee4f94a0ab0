pub mod Parts
pub mod Tables
pub mod Assembling
pub mod Plans
pub mod Shown
