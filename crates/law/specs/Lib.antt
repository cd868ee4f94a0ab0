pub mod Subject
pub mod Memory
pub mod Reading
pub mod Calls
pub mod Met
pub mod Law
pub mod Alphabets
pub mod Trials
