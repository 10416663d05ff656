pub mod ReadLines
pub mod WholeLines
pub mod Sizes
