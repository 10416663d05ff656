pub mod Image
pub mod Refusals
pub mod Calls
pub mod Inner
