pub mod Head
pub mod Chain
pub mod Told
pub mod Reading
pub mod Levels
