pub mod CommandLine
pub mod Matches
pub mod Words
