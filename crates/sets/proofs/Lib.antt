pub mod Bit
pub mod Digits
pub mod Sets
pub mod Known
