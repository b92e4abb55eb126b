pub mod Judge
pub mod Walk
pub mod Step
pub mod Laws
pub mod Placed
pub mod Editions
