pub mod AllOnAxes
pub mod RunWordTexts
pub mod RunLines
pub mod RunStepTexts
pub mod RunTexts
pub mod RunPutting
pub mod RunSteps
