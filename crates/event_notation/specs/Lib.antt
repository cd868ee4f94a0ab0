pub mod Numbers
pub mod Spans
pub mod Reading
pub mod Atoms
pub mod Refusals
pub mod Law
pub mod Trials
