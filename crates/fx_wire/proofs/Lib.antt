pub mod SetLists
pub mod SetWriting
pub mod RecordSteps
pub mod Examples
pub mod FieldSteps
pub mod Fronts
pub mod RoundTrip
