pub mod Servers
pub mod Cases
