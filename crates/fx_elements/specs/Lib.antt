pub mod Axes
pub mod Spelling
pub mod Groups
pub mod Address6
pub mod Elements
pub mod Values
pub mod Words
