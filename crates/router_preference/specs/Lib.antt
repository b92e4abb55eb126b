pub mod Preference
