pub mod Record
pub mod Paper
pub mod Capture
pub mod Cases
pub mod Before
pub mod Longer
pub mod Records
