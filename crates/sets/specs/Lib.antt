pub mod Members
pub mod Masks
pub mod BitSets
pub mod Lowest
pub mod Places
pub mod Positions
