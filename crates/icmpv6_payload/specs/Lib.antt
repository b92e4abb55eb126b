pub mod Owned
pub mod Fixed
