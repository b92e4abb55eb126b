pub mod Wire
pub mod Bits
pub mod Prefix
