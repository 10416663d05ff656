pub mod Bools
pub mod Lowest
