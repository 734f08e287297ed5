pub mod RunsGoOn
pub mod PutOn
pub mod RecordsGiven
pub mod StepsThatCanBeMade
mod Examples
