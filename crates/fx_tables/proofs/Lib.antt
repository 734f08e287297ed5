pub mod Meterings
