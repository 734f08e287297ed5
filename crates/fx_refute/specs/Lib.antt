pub mod Refutations
pub mod Confirming
pub mod RefutationText
pub mod RefutationReading
pub mod ReadingOn
