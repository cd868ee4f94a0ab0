pub mod Rows
pub mod Drafts
pub mod Reading
pub mod Law
pub mod Steps
pub mod Trials
