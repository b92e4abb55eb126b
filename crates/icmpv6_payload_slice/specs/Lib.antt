pub mod Dispatch
pub mod Parts
