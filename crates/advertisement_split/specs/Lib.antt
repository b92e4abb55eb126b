pub mod Split
pub mod Told
pub mod Steps
