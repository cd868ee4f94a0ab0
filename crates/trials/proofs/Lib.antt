mod Searching
mod Counting
mod Written
