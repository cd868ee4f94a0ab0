pub mod Counted
pub mod Remembered
pub mod Scanning
pub mod Calling
pub mod Heard
