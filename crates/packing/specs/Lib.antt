pub mod Packing
pub mod Inner
pub mod Writing
