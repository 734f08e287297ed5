pub mod PartByPart
pub mod Projections
pub mod Words
pub mod Layouts
mod Examples
