mod Regions
pub mod TargetsInOrder
mod Examples
