pub mod Examples
pub mod Terms
