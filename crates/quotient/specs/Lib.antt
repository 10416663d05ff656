pub mod Quotient
pub mod Inner
