pub mod Lists
pub mod RecordsTakenIn
pub mod KeysHeld
pub mod MeteringActs
pub mod Crossings
pub mod StepOutcomes
pub mod StepEffects
pub mod StepsAreMoves
pub mod RunsAreMoves
pub mod TallyCounts
pub mod LastLeaves
pub mod ActsCanLeave
pub mod CompleteRuns
pub mod Rows
pub mod SameValues
pub mod AlikePackets
pub mod AlikeClaims
mod SumExamples
pub mod ClaimExamples
mod StuckExamples
mod ChoiceExamples
mod MeterExamples
mod AxisExamples
