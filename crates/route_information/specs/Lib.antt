pub mod Route
pub mod Cases
