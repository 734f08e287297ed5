pub mod Limits
pub mod Texts
pub mod Lists
pub mod Crossings
pub mod Regions
pub mod Classes
pub mod Targets
