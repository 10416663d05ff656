pub mod Checks
pub mod Given
pub mod Judging
pub mod Laws
pub mod Limits
pub mod OwnBytes
pub mod Reading
pub mod Shown
