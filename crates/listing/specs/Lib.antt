pub mod Packet
pub mod Whole
