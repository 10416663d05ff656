pub mod Tail
pub mod Inner
