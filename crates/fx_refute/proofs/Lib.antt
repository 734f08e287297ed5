pub mod StepsInTurn
pub mod StepsMade
pub mod UnassignedPerStep
pub mod TotalsAgree
pub mod ReadingLines
pub mod RefutationTexts
