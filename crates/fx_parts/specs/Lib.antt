pub mod Meaning
pub mod Parts
pub mod Trees
pub mod Checks
pub mod Meters
pub mod Joins
