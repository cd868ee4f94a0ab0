mod Cells
mod Sweeps
