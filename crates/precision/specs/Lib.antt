pub mod Precision
