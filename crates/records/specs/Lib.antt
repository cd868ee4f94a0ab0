pub mod Blanks
pub mod Copies
pub mod Pieces
pub mod Rows
pub mod Words
