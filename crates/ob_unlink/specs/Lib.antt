pub mod Deletion
pub mod Unlink
pub mod DeletionSteps
