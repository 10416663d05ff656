pub mod GuardBits
pub mod Format
