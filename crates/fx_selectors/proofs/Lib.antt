pub mod AllPairsLeft
pub mod AnyFieldsWithin
pub mod SelectedFields
