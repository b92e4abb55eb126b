pub mod Own
pub mod Receive
pub mod Given
pub mod Whole
pub mod Told
