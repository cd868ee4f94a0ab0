pub mod Arguments
pub mod Commands
pub mod Hex
pub mod Mistakes
pub mod Numbers
pub mod Sheets
pub mod Symbols
pub mod Words
