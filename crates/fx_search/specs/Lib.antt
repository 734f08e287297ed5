pub mod Fronts
pub mod Found
pub mod Growing
pub mod Outcomes
