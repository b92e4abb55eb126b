pub mod Plan
pub mod Filling
