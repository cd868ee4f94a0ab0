pub mod Grammar
pub mod Refusals
pub mod Parse
pub mod Law
pub mod Memory
