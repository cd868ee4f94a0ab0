pub mod Asking
pub mod Filling
pub mod FromFn
pub mod Passing
pub mod Sets
