pub mod Operand
pub mod Refusals
pub mod Inner
