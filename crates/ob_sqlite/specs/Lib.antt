pub mod Fault
pub mod Links
pub mod Shown
