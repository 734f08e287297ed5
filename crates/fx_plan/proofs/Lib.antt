pub mod Loops
pub mod Nets
pub mod NamedNets
pub mod Numberings
pub mod Resolution
pub mod FaultlessNetworks
pub mod PlacesOfThings
pub mod Runnable
pub mod MatchesFit
pub mod StuckProcesses
pub mod LabelGroups
mod Examples
mod TableExamples
