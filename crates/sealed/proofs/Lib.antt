mod Assembled
mod Linking
mod Parted
mod Drafted
mod Showing
mod Stepping
mod Uniting
