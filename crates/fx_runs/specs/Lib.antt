pub mod Destinations
pub mod Extending
pub mod PutOn
pub mod Given
pub mod Making
