pub mod Text
pub mod Decimal
pub mod Reading
pub mod Inner
