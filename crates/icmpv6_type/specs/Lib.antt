pub mod Value
pub mod From
pub mod Reserved
