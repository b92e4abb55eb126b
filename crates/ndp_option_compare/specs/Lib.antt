pub mod Entry
pub mod Compare
pub mod Told
pub mod Turn
