pub mod ItemText
pub mod ItemReading
