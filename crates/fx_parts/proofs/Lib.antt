pub mod FatesOfParts
pub mod PartsCountOnce
pub mod VerdictsOfParts
pub mod TreesOfParts
mod Examples
pub mod Checked
pub mod Metered
pub mod Networks
mod Joins
