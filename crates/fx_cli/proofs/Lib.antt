pub mod AnswersGiven
pub mod CallOutputs
pub mod CallRefusals
pub mod EndsInJson
pub mod Options
