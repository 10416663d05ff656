pub mod Algorithm
pub mod Reciprocal
pub mod Calls
pub mod Inner
