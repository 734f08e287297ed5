pub mod Pointer
pub mod Walk
pub mod Scalars
pub mod Lists
pub mod RequiredLists
pub mod Choice
pub mod NamedEntries
pub mod KnownNames
