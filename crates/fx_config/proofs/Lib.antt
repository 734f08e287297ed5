pub mod NamesResolve
pub mod NextFields
pub mod EntryNamed
