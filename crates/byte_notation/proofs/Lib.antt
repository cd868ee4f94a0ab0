pub mod Classed
pub mod Complete
pub mod Eight
pub mod Fronts
pub mod Passing
pub mod Sound
pub mod Steps
pub mod Tried
