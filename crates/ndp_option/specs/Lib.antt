pub mod Mtu
pub mod LinkLayer
pub mod Cases
