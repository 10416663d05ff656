pub mod Sizes
pub mod Requests
pub mod LineLaws
mod Examples
mod Runs
