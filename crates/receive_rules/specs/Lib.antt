pub mod Reasons
pub mod Rules
