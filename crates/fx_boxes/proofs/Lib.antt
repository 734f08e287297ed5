pub mod Holding
pub mod Overlaps
pub mod Parts
