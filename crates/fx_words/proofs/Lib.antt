pub mod Lookups
pub mod Lists
