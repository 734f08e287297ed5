pub mod RunText
pub mod RunReading
pub mod RunLineText
