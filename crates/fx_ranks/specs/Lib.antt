pub mod Feeding
pub mod Ranks
