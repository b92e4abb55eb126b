pub mod Window
pub mod Zeros
pub mod Unseen
pub mod Table
