pub mod Rule
pub mod Second
pub mod Newer
pub mod Editions
pub mod Walk
pub mod Told
pub mod Run
