pub mod Bit
pub mod Passing
