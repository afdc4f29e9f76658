pub mod Changing
pub mod Testing
pub mod TreeRows
pub mod EditedSteps
