pub mod Documents
pub mod Faultless
pub mod Refusals
pub mod Checks
pub mod Texts
pub mod Outputs
pub mod RefusedTexts
