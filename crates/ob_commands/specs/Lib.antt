pub mod Asked
pub mod Changes
pub mod AskedSteps
pub mod Finding
pub mod Judging
pub mod Making
pub mod Holding
pub mod Told
