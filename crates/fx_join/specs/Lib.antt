pub mod PartTexts
pub mod Streams
pub mod Taking
pub mod Wholes
pub mod PartChecks
pub mod Joins
