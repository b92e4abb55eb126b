pub mod Update
pub mod Told
