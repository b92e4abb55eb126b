pub mod Ones
pub mod Icmpv6
pub mod Told
pub mod Fields
pub mod Narrow
pub mod Running
