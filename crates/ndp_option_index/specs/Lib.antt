pub mod Entries
pub mod Index
pub mod Append
pub mod Told
pub mod Laws
