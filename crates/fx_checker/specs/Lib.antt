pub mod Documents
pub mod Outputs
pub mod Checks
pub mod Ending
pub mod Running
pub mod Arguments
