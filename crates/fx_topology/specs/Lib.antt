pub mod Limits
pub mod NetworkDevices
pub mod Links
pub mod Starts
pub mod Reports
pub mod Networks
