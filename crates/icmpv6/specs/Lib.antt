pub mod Head
pub mod Preference
