pub mod BuiltCommands
pub mod CommandTable
pub mod LimitWords
pub mod ParsedWords
pub mod AcceptedWords
pub mod OptionCommand
pub mod OptionFiles
pub mod OptionRows
pub mod OptionNames
pub mod OptionSaid
pub mod OptionWalk
pub mod OptionWords
pub mod SingleWords
pub mod WordSteps
mod WordExamples
