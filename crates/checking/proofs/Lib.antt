pub mod Told
pub mod Twos
