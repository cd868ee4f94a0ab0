pub mod Asked
pub mod Sets
