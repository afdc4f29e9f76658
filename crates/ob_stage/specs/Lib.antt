pub mod Stage
pub mod StageSteps
