pub mod Laws
pub mod Rom
