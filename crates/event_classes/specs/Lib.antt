pub mod Cuts
pub mod Tables
pub mod Own
pub mod Eventwise
pub mod Cutting
