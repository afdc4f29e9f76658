pub mod Install
pub mod InstallSteps
