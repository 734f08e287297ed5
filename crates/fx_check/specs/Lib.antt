pub mod LineFaults
pub mod Judging
pub mod FirstRefusal
pub mod Certificates
pub mod Remaining
pub mod Outcomes
pub mod Declarations
pub mod Stops
