pub mod Cuts
pub mod Ends
pub mod Pairs
pub mod Same
