pub mod Selection
pub mod Feeding
