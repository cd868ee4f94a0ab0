mod Inserting
mod Passing
